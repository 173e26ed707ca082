-- Laws of the decoding: that no row has an operand that cannot be read or written.
pub mod Sound
