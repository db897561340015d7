-- What collecting the errors of a table promises.
pub mod Collected
