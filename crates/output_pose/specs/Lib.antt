-- What steps 2 and 3 make of a player's instances and the output
pub mod Shown
