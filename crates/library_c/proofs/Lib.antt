-- The contracts of the exports leave one answer.
pub mod Determined
