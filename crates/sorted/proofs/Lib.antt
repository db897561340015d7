-- The laws of sorting. Theorems is what callers cite; the others prove it and the functions.
pub mod Each
pub mod Insertion
pub mod Merging
pub mod Inserting
pub mod Halving
pub mod Items
pub mod Named
pub mod Neighbours
pub mod Searching
pub mod Repeats
pub mod Runs
pub mod Counting
pub mod Seconds
pub mod Mapped
pub mod Theorems
pub mod Cases
pub mod Marking
