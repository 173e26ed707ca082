-- What the code's own answers promise: what a call is, long runs as calls one after the other, what lies between the ends of a run, and demand 3.
pub mod Calls
pub mod LongRuns
pub mod Between
pub mod CodeKeepsItsPlace
