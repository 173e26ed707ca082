-- The definition's results as the structs that the code returns: bytes with their flags, then words.
pub mod Computed
pub mod Words
