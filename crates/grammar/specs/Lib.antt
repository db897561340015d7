-- The grammar of document 01, what its derivations mean, and reading with recovery.
pub mod Tree
pub mod Place
pub mod Sort
pub mod Meaning
pub mod Error
pub mod Condition
pub mod Derivation
pub mod Reading
pub mod Answer
pub mod Quoted
