-- Items, their order, and what sorting and searching answer.
pub mod Order
pub mod Item
pub mod Sorted
pub mod Laws
