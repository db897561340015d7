-- The theorems and laws of the canonical text.
pub mod Laws
pub mod Wrap
pub mod Places
pub mod Lines
pub mod Comment
pub mod Cases
pub mod Parts
pub mod Short
