-- The steps of the proofs: nothing here needs to be read to know what is claimed
pub mod Digits
pub mod Fields
pub mod Lines
pub mod Parts
pub mod Rows
pub mod Shape
pub mod Reads
pub mod Writes
pub mod Forward
pub mod Backward
pub mod Patterns
pub mod Refusals
pub mod Longest
pub mod Accepted
