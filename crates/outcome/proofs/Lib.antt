-- Laws of the answers: no two say the same, and each contract leaves one.
pub mod Told
pub mod Determined
