-- What a promise comes to.
pub mod Outcome
