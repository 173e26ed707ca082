-- Shows that the mask clears the bit.
use borrow.Author.Rules.{rules}
use Rattle.opcodes.proofs.SingleBits.{and_clears}
use Rattle.bits.proofs.single_bits.res.Goals as goal

pub returns : goal.returns
returns c = and_clears _ _ (search rules) (search rules)
