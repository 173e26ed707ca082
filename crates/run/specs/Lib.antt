-- What pins the answers of a run and of a step.
pub mod Answers
