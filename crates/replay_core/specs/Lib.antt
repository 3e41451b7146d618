-- What replaying a list of calls prints
pub mod Replay
-- That it is the run by definition
pub mod RunShown
-- What the functions ensure
pub mod Replaying
