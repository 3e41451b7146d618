-- What laws speak of, where other crates' specs cite it; the laws are in proofs/
pub mod Text
