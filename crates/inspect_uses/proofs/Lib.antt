-- Laws for the proofs
pub mod Laws
