pub mod Patterns
pub mod Rounding
pub mod Narrowing
pub mod Ranges
pub mod Index
