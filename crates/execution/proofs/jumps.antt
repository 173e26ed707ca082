-- Laws of jumps, calls and returns.
pub mod Jumping
