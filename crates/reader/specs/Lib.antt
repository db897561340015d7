-- What reading promises.
pub mod Answers
