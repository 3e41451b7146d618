-- How many words rows and answers have
pub mod Sizes
-- What putting words into a line does to its place
pub mod Moved
