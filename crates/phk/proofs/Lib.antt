-- Laws that the proofs of the tool's functions share: how a run goes on in pieces, and what the verdict of a window depends on.
pub mod Going
pub mod Verdicts
