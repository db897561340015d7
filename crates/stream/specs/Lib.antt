-- What the next number of a list can be.
pub mod Number
