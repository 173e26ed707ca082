-- What the answers state: the interrupts by their numbers, and what each outcome of a step and of a run says.
pub mod Interrupts
pub mod Numbers
