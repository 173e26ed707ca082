-- Shows the rotation of A: that of any byte, without Z.
use Rattle.bits.proofs.shifts.rlca.Goals as goal

pub returns : goal.returns
returns c = simp (c.without_z.ensures, c.rlc.ensures)
