-- Laws of addresses as they are written: digits alone, a mark in front, what the tool writes, and examples.
pub mod Mark
pub mod ReadBack
pub mod Examples
