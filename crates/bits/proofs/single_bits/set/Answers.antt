-- Shows that the mask sets the bit.
use borrow.Author.Rules.{rules}
use Rattle.opcodes.proofs.SingleBits.{or_raises}
use Rattle.bits.proofs.single_bits.set.Goals as goal

pub returns : goal.returns
returns c = or_raises _ _ (search rules) (search rules)
