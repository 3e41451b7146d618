-- What each call shows, as text
pub mod Report
-- How long it is
pub mod Sizes
