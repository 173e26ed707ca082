-- Laws of the loop that writes a decimal number.
pub mod Decimal
