pub mod Found
pub mod Wide
pub mod CountedTo
