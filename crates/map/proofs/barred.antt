-- Laws of the instructions that are not allowed: they are those that the screen forbids.
pub mod Named
