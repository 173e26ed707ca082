-- Laws of the structs in which an instruction answers.
pub mod Ending
