-- What hosts are told
pub mod HostLoops
