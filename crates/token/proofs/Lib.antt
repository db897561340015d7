-- The laws of tokens and token tables.
pub mod Laws
pub mod Records
pub mod Paragraphs
pub mod Walk
pub mod Encode
pub mod Once
pub mod Cases
pub mod Known
