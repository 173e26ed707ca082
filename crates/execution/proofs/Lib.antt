-- Why the code's shape leads where the definition leads: bytes in the registers, the r8 operands, then each kind of instruction, and all of them.
pub mod Small
pub mod Bridge8
pub mod BridgeWork
pub mod BridgePrefixed
pub mod BridgeJump
pub mod Bridge
