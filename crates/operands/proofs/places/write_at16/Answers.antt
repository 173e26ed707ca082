-- Shows a byte to where the word at PC points: one access after another.
use Rattle.definition.specs.Bus.{Operand}
use Rattle.definition.specs.Execution.{imm16, store}
use Rattle.operands.specs.Operands.{write_operand}
use Rattle.bus.proofs.Leading.{after}
use Rattle.operands.proofs.places.write_at16.Goals as goal

pub returns : goal.returns
unfolding write_operand
returns c =
    record { there = after _ _ _ _ _ _ _ _ _ imm16 (λ a. store Operand a _) _ _ c.fetch16-x.ensures.there c.store.ensures.there }
