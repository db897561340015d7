-- Places of a table, and what is collected there.
pub mod Filling
pub mod Places
pub mod Imports
