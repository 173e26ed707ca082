-- What the watch states: where an instruction writes, what a step writes, why a watch ends, and a state as demand 3 wants it.
pub mod Places
pub mod Written
pub mod Reasons
pub mod Demanded
