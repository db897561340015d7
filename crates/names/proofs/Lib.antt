-- The laws of namespaces and answers.
pub mod Answers
pub mod Joined
pub mod Walk
pub mod Dotted
pub mod Shared
pub mod Theorems
