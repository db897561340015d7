-- The definition of the canonical text.
pub mod Wrap
pub mod Text
