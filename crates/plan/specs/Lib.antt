-- What the check answers, and what its parts find
pub mod Checked
pub mod Parts
