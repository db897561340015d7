-- The records of imports.
pub mod Imports
