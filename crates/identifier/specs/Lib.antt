-- The definitions of names, in document 01's order.
pub mod Byte
pub mod Table
pub mod Name
pub mod Words
pub mod Forms
pub mod Left
pub mod Order
pub mod Join
pub mod Survive
