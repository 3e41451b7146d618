-- What the steps of counting give
pub mod Counting
