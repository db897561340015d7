-- Laws of emitting.
pub mod Skips
pub mod Bodies
pub mod Indices
pub mod Walks
pub mod Schemas
