-- Laws of slices that are the same.
pub mod SameBytes
