-- Shows the table: 256 entries, one computed test.
use mathlib.Core.Path.{refl}
use Rattle.opcodes.specs.Instruction.{decode}
use Rattle.opcodes.proofs.Tested.{agree}
use Rattle.instruction.specs.Entry.{Unprefixed}
use Rattle.instruction.proofs.instructions_table.instructions.Goals as goal

pub returns : goal.returns
unfolding Unprefixed decode
returns c = agree _ _ 256 refl
