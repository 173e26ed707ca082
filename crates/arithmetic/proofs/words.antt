-- Laws of the sums of words: what a sign extension keeps.
pub mod Signed
