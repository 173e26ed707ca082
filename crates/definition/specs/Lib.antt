-- The definition: what a step asks of memory, what each instruction does, the step in its seven points, and the run.
pub mod Bus
pub mod Execution
pub mod Step
pub mod Run
