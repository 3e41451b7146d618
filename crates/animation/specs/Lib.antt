-- What the crate's functions give where model has no type for it
pub mod Sampling
