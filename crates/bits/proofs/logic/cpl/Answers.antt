-- Shows CPL: `flagged`'s answer, with Z and C as they were.
use Rattle.bits.proofs.logic.cpl.Goals as goal

pub returns : goal.returns
returns c = simp (c.flagged.ensures, c.flag_c-c.ensures, c.flag_z-z.ensures)
