-- the claims, and that their premises can be met
pub mod Theorems
pub mod Witness
-- the steps of their proofs
pub mod Laws
