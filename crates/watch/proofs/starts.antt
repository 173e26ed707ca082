-- Laws of the walk over a window.
pub mod Walking
