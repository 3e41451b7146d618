-- Laws for the proofs of what is reported
pub mod Laws
