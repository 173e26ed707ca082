-- Laws of the place at an address: the walk byte by byte, and that it is the screen's.
pub mod Walking
pub mod AsMarked
