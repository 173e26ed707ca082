-- Shows the byte of page FF that the byte at PC names: one access after another.
use Rattle.definition.specs.Bus.{Operand}
use Rattle.definition.specs.Execution.{imm8, load, high}
use Rattle.operands.specs.Operands.{read_operand}
use Rattle.bus.proofs.Leading.{after, along}
use Rattle.operands.proofs.sources.read_high.Goals as goal

pub returns : goal.returns
unfolding imm8 read_operand
returns c =
    record {
      there = after _ _ _ _ _ _ _ _ _ imm8 (λ n. load Operand (high n)) _ _ c.fetch_next_pc-x.ensures.there (along _ _ _ _ _ _ (load Operand) _ _ _ c.high.ensures c.load.ensures.there);
    }
