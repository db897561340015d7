-- The marked cases of document 01.
pub mod Table
