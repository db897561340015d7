-- The laws of stems.
pub mod Laws
pub mod Cases
