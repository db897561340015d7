-- The definitions of schemas and schema tables.
pub mod Ast
pub mod Kind
pub mod Encode
pub mod Order
pub mod Payload
pub mod Table
pub mod Decode
pub mod Walk
pub mod Checked
pub mod Kinds
pub mod Limits
