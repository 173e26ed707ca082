-- What a command line says: the grammar, what the words so far have said, the values in it, one word more, and the end.
pub mod Grammar
pub mod Line
pub mod Given
pub mod Take
pub mod Finish
