-- What hosts are told
pub mod HostUses
