-- Laws over plain variables that the proofs of the functions share.
pub mod Patching
pub mod Noting
