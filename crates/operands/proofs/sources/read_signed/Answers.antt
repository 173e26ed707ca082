-- Shows the byte at PC, as a signed one.
use Rattle.definition.specs.Execution.{imm8, give}
use Rattle.sm83.specs.Basics.{signed}
use Rattle.operands.specs.Operands.{read_operand}
use Rattle.bus.proofs.Leading.{after, giving}
use Rattle.operands.proofs.sources.read_signed.Goals as goal

pub returns : goal.returns
unfolding imm8 read_operand
returns c =
    record { there = after _ _ _ _ _ _ _ _ _ imm8 (λ e. give (signed e)) _ _ c.fetch_next_pc-x.ensures.there (giving _ _ _ _ _ c.sign_extended.ensures) }
