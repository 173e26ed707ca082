-- What reading and writing an operand does, as accesses in order; and what is done with no access.
pub mod Operands
pub mod Keeps
