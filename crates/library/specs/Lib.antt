-- What the exported functions answer and leave: a step or a run, a screen, power-on, and the version.
pub mod Left
pub mod Screened
pub mod PoweredOn
pub mod Version
