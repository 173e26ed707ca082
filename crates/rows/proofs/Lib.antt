-- Every starred row holds of the definition; the row on a limit by the limit's own law.
pub mod AllRows
pub mod Lengths
