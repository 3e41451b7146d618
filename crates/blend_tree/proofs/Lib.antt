-- Laws of nodes, and laws for the proofs of each module
pub mod NodeLaws
pub mod SynchronizeLaws
pub mod SamplingLaws
pub mod PoseLaws
