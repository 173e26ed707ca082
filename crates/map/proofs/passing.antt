-- Laws of the last addresses that would pass: the screen's verdict goes by how many marks are lent, the search one address at a time, and that it finds the nearest.
pub mod Lent
pub mod Searching
pub mod Nearest
