pub mod Behind
pub mod LineLaws
pub mod Laws
