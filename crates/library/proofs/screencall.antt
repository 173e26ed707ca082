-- Laws of the marks and the block after a screen.
pub mod Screenings
