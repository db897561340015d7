-- The pieces of a schema table that one construct gives, and what has to stand where its places say.
pub mod Pieces
pub mod Here
