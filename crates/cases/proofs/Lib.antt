-- The one theorem of the marked cases.
pub mod Holds
