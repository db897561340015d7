-- An answer is told by its case.
pub mod Told
