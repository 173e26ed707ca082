-- Laws of slices that hold the same bytes; the laws of each module of src/ stand beside it.
pub mod same
