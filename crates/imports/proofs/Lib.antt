-- Laws of imports.
pub mod Laws
