-- Laws of where an instruction writes.
pub mod Addresses
