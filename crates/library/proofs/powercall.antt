-- Laws of the state block after power-on.
pub mod PowerOns
