-- The laws of collecting.
pub mod Laws
