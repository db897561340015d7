-- What a caller in another language is promised.
pub mod Returned
