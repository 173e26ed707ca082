-- Laws of the match on the operation: what each arm comes to.
pub mod Computing
