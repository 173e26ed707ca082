-- Laws of the lanes: the search for a free one, and that it is free.
pub mod Searching
