-- Shows the instruction of a byte after CB: its entry of the table.
use Rattle.std.proofs.Common.{◌∙◌, arith}
use Rattle.instruction.specs.Entry.{Prefixed}
use Rattle.instruction.proofs.Instruction.from_prefix.Goals as goal

pub returns : goal.returns
unfolding Prefixed
returns c = c.from_entry.ensures ∙ c.prefixed_instructions.ensures c.args.byte (omega (arith, c.ranges.byte))
