-- Shows the rotation through the carry, with the carry in as a bit.
use Rattle.bits.proofs.shifts.rr.Goals as goal

pub returns : goal.returns
returns c = simp (c.with_carry_out.ensures, c.bit_of.ensures.is, c.flag_c.ensures)
