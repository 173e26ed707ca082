-- Laws over plain variables that the proofs of the functions share, and what it means that the core agrees with a record.
pub mod Compared
pub mod Differing
pub mod Means
