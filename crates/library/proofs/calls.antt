-- Laws of the blocks after a step or a run.
pub mod Blocks
