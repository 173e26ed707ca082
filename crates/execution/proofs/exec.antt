-- Laws of one whole instruction: operand, operation and destination.
pub mod Executing
