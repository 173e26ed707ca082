-- Shows a rotation of A, which clears Z.
use Rattle.bits.proofs.shifts.without_z.Goals as goal

pub returns : goal.returns
returns c = simp (c.flagged.ensures, c.flag_c-c.ensures)
