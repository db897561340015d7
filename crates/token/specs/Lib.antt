-- The definitions of tokens and token tables.
pub mod Kind
pub mod Token
pub mod Payload
pub mod Table
pub mod Fit
pub mod Checked
pub mod Split
pub mod Places
pub mod Kinds
