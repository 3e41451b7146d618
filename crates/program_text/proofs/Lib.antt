-- Laws for this crate's proof, and for those of programs that show what was read
pub mod Laws
