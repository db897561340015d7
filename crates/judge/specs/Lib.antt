-- What judging a table promises.
pub mod Judges
pub mod Told
