-- Shows SCF: `flagged`'s answer, with Z as it was.
use Rattle.bits.proofs.logic.scf.Goals as goal

pub returns : goal.returns
returns c = simp (c.flagged.ensures, c.flag_z.ensures)
