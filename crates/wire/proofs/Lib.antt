-- The laws of wire, for callers too.
pub mod Laws
pub mod Numbers
pub mod Choice
pub mod Puts
pub mod Refusals
