-- Shows the instruction of a byte: its entry of the table.
use Rattle.std.proofs.Common.{◌∙◌, arith}
use Rattle.instruction.specs.Entry.{Unprefixed}
use Rattle.instruction.proofs.Instruction.from_byte.Goals as goal

pub returns : goal.returns
unfolding Unprefixed
returns c = c.from_entry.ensures ∙ c.instructions.ensures c.args.byte (omega (arith, c.ranges.byte))
