-- Laws of the run: what stands behind the code's memory, the loop of steps, the two tests in front of it, and that the contracts leave one answer.
pub mod Behind
pub mod Repeating
pub mod Admitted
pub mod Determined
