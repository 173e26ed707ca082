-- Shows LD HL,SP: the callees' answers, by one law.
use Rattle.execution.proofs.words.OnWords.{offset_loaded}
use Rattle.execution.proofs.words.ld_hl_sp.Goals as goal

pub returns : goal.returns
returns c = record { there = offset_loaded _ _ _ _ _ _ _ c.idle-p.ensures c.add_offset.ensures }
