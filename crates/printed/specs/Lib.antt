-- The definition of what typefmt prints.
pub mod Printed
pub mod Errors
