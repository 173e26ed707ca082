-- What an opcode stands for, what its arithmetic leaves, and the reference's columns to hold the two against.
pub mod Instruction
pub mod Arithmetic
pub mod Published
