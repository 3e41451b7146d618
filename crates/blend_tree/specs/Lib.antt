-- The slots of a state's nodes, a clip's samples, and blocks of poses of a tree's nodes
pub mod Slots
pub mod Sampling
pub mod Blocks
