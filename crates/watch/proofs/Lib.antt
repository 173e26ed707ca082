-- Laws of the watch: one step of it, what a reason says of the step, what cannot happen in a routine that passes, and that the contracts leave one answer.
pub mod OneStep
pub mod Reason
pub mod CannotHappen
pub mod Determined
