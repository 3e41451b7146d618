pub mod LineFound
pub mod LineReading
pub mod Steps
pub mod Readers
pub mod Figures
