-- The laws of names.
pub mod Table
pub mod Bytes
pub mod Good
pub mod Words
pub mod Left
pub mod Length
pub mod Filled
pub mod Level
pub mod Total
pub mod Survival
pub mod Theorems
