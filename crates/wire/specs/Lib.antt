-- The definitions of wire: bytes, numbers as bytes, writing into a lent buffer.
pub mod Bytes
pub mod Pick
pub mod Le
pub mod Decimal
pub mod Put
pub mod Record
pub mod Puts
pub mod Refusal
