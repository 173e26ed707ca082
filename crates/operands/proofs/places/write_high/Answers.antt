-- Shows a byte to page FF, where the byte at PC says: one access after another.
use Rattle.definition.specs.Bus.{Operand}
use Rattle.definition.specs.Execution.{imm8, store, high}
use Rattle.operands.specs.Operands.{write_operand}
use Rattle.bus.proofs.Leading.{after, stored}
use Rattle.operands.proofs.places.write_high.Goals as goal

pub returns : goal.returns
unfolding imm8 write_operand
returns c =
    record {
      there = after _ _ _ _ _ _ _ _ _ imm8 (λ n. store Operand (high n) _) _ _ c.fetch_next_pc-x.ensures.there (stored _ _ _ _ _ _ _ _ _ c.high.ensures c.store.ensures.there);
    }
