-- What the tables' entries stand for: the kinds of operand, when a condition holds, the row of each instruction, and what the two tables have to be.
pub mod Operand
pub mod Holding
pub mod Row
pub mod Entry
