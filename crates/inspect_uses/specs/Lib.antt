-- What `inspect uses` prints
pub mod UsesText
-- How long it is
pub mod Sizes
