-- The laws of writing a schema table's text.
pub mod Types
pub mod Fields
pub mod Declarations
pub mod Imports
pub mod Answers
