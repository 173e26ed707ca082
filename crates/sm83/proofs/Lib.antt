-- What it means that a contract leaves one answer, and that each contract of this crate does.
pub mod OneAnswer
pub mod Determined
