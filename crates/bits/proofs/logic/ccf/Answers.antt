-- Shows CCF: `flagged`'s answer, with C turned over.
use Rattle.bits.proofs.logic.ccf.Goals as goal

pub returns : goal.returns
returns c = simp (c.flagged.ensures, c.flag_z.ensures, c.flag_c-c.ensures)
