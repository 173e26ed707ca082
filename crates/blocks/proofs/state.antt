-- Laws of the state block: when it is malformed, and that it is read and written back as it was, its reserved bytes too.
pub mod WellFormed
pub mod Coded
pub mod StateThere
pub mod StateBack
pub mod Reserved
