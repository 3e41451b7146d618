-- The size of a host's player
pub mod PlayerSize
-- What hosts can count on beside the contracts
pub mod Theorems
