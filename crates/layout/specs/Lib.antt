-- What the layout of a passed plan is, and what its kinds' and operators' numbers stand for
pub mod Layout
pub mod Kinds
