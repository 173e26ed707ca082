-- Laws of the picture: drawn byte by byte, and what it shows of a window that passes.
pub mod Drawing
pub mod AsMarked
