pub mod FieldLaws
pub mod Laws
pub mod LineLaws
pub mod ReaderLaws
pub mod FigureLaws
pub mod ReadLaws
