-- How a number stands for an operator, and what step 1 makes of a player
pub mod Operators
pub mod Step
