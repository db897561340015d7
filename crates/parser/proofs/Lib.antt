-- The laws of the rules, one step after the other.
pub mod Laws
pub mod Types
pub mod Fields
pub mod Heads
pub mod Imports
pub mod Unique
