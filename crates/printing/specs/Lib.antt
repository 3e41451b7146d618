-- What a function that prints into a slice says of it
pub mod Written
-- How long it is
pub mod Sizes
