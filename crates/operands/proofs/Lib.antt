-- The laws that both matches go by.
pub mod Kept
pub mod Moving
