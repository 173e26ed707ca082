-- Laws of the match on an opcode byte: its arms are right by a computed test.
pub mod Arms
