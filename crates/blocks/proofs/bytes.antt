-- Laws of a front that is written over.
pub mod Filled
