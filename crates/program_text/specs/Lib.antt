-- What a program reads of a figure's text
pub mod ProgramText
