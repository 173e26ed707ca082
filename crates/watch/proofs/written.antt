-- Laws of what a step writes: an instruction by its form, and the step by its course.
pub mod Executed
pub mod Stepped
