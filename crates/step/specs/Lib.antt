-- What the stages of a step do.
pub mod Stages
