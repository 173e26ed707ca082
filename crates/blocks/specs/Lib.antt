-- What the blocks of bytes hold: numbers as bytes, the registers, the state, an answer, and a verdict.
pub mod Bytes
pub mod Registers
pub mod WellFormed
pub mod StateBlock
pub mod AnswerBlock
pub mod ScreenBlock
