-- What the steps of marking do
pub mod Marking
