-- Laws of the loop that reads a number.
pub mod ByteRead
