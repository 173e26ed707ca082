-- Laws of the screen in code: the parts together, and that the contract leaves one answer.
pub mod Whole
pub mod Determined
