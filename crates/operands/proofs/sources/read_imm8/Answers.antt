-- Shows the byte at PC, as a word.
use Rattle.definition.specs.Execution.{imm8}
use Rattle.operands.proofs.sources.read_imm8.Goals as goal

pub returns : goal.returns
unfolding imm8
returns c =
    c.fetch_next_pc-x.ensures
