-- Laws of the sixteen digits.
pub mod Sixteen
