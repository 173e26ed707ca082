-- The laws of a window that is screened.
pub mod Windowed
