-- The definition of an import's name, and parts of bytes.
pub mod Stem
pub mod Part
