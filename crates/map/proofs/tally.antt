-- Laws of the counts: index by index.
pub mod Counting
