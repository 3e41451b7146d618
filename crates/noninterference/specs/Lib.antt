-- what demand 3 speaks of
pub mod Alike
pub mod Trace
-- the claim; the theorems are in proofs/
pub mod Demand3
pub mod Questions
pub mod Witnesses
-- what the steps of its proof speak of
pub mod Laws
