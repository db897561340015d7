-- Demands holds the statements; the others prove them.
pub mod Demands
pub mod Told
pub mod Texts
pub mod Numbers
pub mod Refusals
