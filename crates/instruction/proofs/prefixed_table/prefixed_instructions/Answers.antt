-- Shows the table after CB: 256 entries, one computed test.
use mathlib.Core.Path.{refl}
use Rattle.opcodes.specs.Instruction.{decode_cb}
use Rattle.opcodes.proofs.Tested.{agree}
use Rattle.instruction.specs.Entry.{Prefixed}
use Rattle.instruction.proofs.prefixed_table.prefixed_instructions.Goals as goal

pub returns : goal.returns
unfolding Prefixed decode_cb
returns c = agree _ _ 256 refl
