-- Laws of the walk in code: one instruction, how far it has come, one turn, and that its contract leaves one answer.
pub mod Steps
pub mod Reached
pub mod Turn
pub mod Determined
