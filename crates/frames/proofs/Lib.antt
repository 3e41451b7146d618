-- Laws for the proofs of a frame and a page frame
pub mod Laws
