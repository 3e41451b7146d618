-- Matrices inside a list of floats
pub mod Buffer
