-- The definitions of namespaces and of the answers on names.
pub mod Namespace
pub mod Whole
pub mod Answer
