-- what the claims speak of; the theorems are in proofs/
pub mod Counted
pub mod RoundTrip
