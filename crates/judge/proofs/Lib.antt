-- The laws of judging.
pub mod Ahead
pub mod Errors
pub mod Remains
pub mod Fields
pub mod Walks
pub mod Sorting
pub mod Indices
pub mod Imports
pub mod Declarations
pub mod Opening
