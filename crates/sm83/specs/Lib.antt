-- What the state crate states: the small words, the state and its parts, the flags in F, and the states at power-on.
pub mod Basics
pub mod State
pub mod Flags
pub mod PowerOn
