-- What a lane is
pub mod Lanes
