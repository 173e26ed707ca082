-- Laws of the loops over lines and words.
pub mod Found
