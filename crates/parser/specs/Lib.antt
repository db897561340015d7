-- What the rules of the parser answer.
pub mod Faults
pub mod Trees
pub mod Laid
pub mod Steps
