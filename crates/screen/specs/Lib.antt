-- What the screen's parts state: an instruction's length and class, and what each pass answers and leaves.
pub mod Shapes
pub mod Parts
