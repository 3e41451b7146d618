-- what follows from the definitions
pub mod Laws
pub mod Bench
pub mod BenchText
pub mod Wrap
pub mod Stopping
pub mod Pauses
pub mod Joints
pub mod Pages
pub mod ExactlyOne
pub mod Chains
pub mod Unused
pub mod Repeats
