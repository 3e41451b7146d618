-- What is asked of a figure, and which question the program of document 01 is
pub mod Questions
pub mod Theorems
