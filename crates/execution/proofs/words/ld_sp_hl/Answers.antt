-- Shows LD SP,HL: the callees' answers, by one law.
use Rattle.execution.proofs.words.OnWords.{loaded_sp}
use Rattle.execution.proofs.words.ld_sp_hl.Goals as goal

pub returns : goal.returns
returns c =
    record {
      there = loaded_sp _ _ _ _ _ _ _ _ c.idle-p.ensures c.reg_hl_read.ensures c.with_registers.ensures c.normal.ensures;
    }
