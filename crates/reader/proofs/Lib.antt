-- The laws of the reader.
pub mod Laws
