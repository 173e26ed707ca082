-- Laws of the step: points 1 to 4, then the fetch and the execution.
pub mod Stepping
pub mod Fetching
