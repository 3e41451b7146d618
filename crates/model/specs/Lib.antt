-- Document 01's definitions, one file a section, in its order
pub mod Numbers
pub mod Rotations
pub mod Pose
pub mod Reasons
pub mod Answers
pub mod Plan
pub mod Check
pub mod Clips
pub mod Table
pub mod Tree
pub mod Controller
pub mod Skeleton
pub mod Loops
pub mod Run
pub mod Uses
pub mod Unseen
pub mod Text
pub mod Program
pub mod Promises
-- document 02's, one file a card, and the classes of floats that they speak of
pub mod Classes
pub mod Narrowing
-- what theorems in proofs/ speak of
pub mod Bench
pub mod BenchText
pub mod Wrap
pub mod Stopping
pub mod Pauses
pub mod Joints
pub mod Pages
pub mod ExactlyOne
pub mod Chains
pub mod Unused
pub mod Repeats
pub mod Laws
