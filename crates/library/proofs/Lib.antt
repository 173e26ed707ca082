-- The exported functions' contracts leave one answer.
pub mod Determined
