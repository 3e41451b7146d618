pub mod Laws
pub mod FollowLaws
