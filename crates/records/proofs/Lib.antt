-- Laws of the records.
pub mod Laws
