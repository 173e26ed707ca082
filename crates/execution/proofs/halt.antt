-- Laws of HALT.
pub mod Halting
