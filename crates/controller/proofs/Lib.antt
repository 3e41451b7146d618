-- Laws for the calls' proofs
pub mod Laws
