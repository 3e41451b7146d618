-- the theorems, and that their premises can be met
pub mod Demand3
pub mod Questions
pub mod Witnesses
-- the steps of their proofs
pub mod Laws
