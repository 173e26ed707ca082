-- Laws of words as they are shown: the loop that writes one, and that no terminal obeys it.
pub mod Controls
pub mod Tame
