-- Shows the rotation of A: that of any byte, without Z.
use Rattle.bits.proofs.shifts.rrca.Goals as goal

pub returns : goal.returns
returns c = simp (c.without_z.ensures, c.rrc.ensures)
