-- What the map states: which bytes start a jump, the walk by instruction length, the kind of each byte of a window, and the counts; which instruction is barred, where a jump goes, what stands there, and which last address would pass; and the lanes of a picture of its jumps.
pub mod Opcode
pub mod Walk
pub mod Kinds
pub mod Counts
pub mod Barred
pub mod Target
pub mod Place
pub mod Passing
pub mod Lanes
