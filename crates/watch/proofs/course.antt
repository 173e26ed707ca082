-- Laws of the course of a step.
pub mod Points
