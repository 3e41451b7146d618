-- What is said on standard error of an error
pub mod Words
