-- The definition of writing a schema table's text.
pub mod Parts
pub mod Steps
pub mod Written
