-- Shows the byte that the word at PC points at: one access after another.
use Rattle.definition.specs.Bus.{Operand}
use Rattle.definition.specs.Execution.{imm16, load}
use Rattle.operands.specs.Operands.{read_operand}
use Rattle.bus.proofs.Leading.{after}
use Rattle.operands.proofs.sources.read_at16.Goals as goal

pub returns : goal.returns
unfolding read_operand
returns c =
    record { there = after _ _ _ _ _ _ _ _ _ imm16 (load Operand) _ _ c.fetch16-x.ensures.there c.load.ensures.there }
