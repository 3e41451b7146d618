-- The flat player and answers, there and back
pub mod HostPlayer
-- What the exported calls ensure
pub mod HostPromises
-- A flat player by its parts
pub mod HostParts
-- Packing and unpacking lose nothing
pub mod Theorems
