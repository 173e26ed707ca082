-- Shows BIT: Z from the bit, C as it was.
use Rattle.bits.proofs.single_bits.bit.Goals as goal

pub returns : goal.returns
returns c = simp (c.flag_byte.ensures, c.flag_c-c.ensures)
