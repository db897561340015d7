-- What emitting a table promises.
pub mod Emits
pub mod Indices
