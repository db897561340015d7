-- The laws of what is printed: how long it is, the lines of an error list, what the reader's and the writer's answers say of it, and what is printed
-- in the terms of the definition of reading.
pub mod Short
pub mod Lines
pub mod Texts
pub mod Theorems
