-- Laws of how a run ends: one answer each.
pub mod Determined
