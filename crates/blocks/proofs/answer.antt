-- Laws of the answer block: that it reads back.
pub mod Standing
