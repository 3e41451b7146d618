-- the types in specs/PlayerSize.antt are the structs' own
pub mod OwnTypes
