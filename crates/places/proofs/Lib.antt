-- Laws of collecting.
pub mod Gathered
pub mod Opening
pub mod Collecting
pub mod Arranging
pub mod Walk
pub mod Orders
