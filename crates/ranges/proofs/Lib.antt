-- Registers stay in their ranges, over the parts of an instruction, the instructions, the step and the run; and what follows: the only refusals there are, and runs in pieces.
pub mod Ranged
pub mod Keeping
pub mod KeepingExecution
pub mod KeepingStep
pub mod Ranges
pub mod RefusesOnly
pub mod RunPieces
