-- Shows ADD HL: the callees' answers, by one law.
use Rattle.execution.proofs.words.OnWords.{hl_added}
use Rattle.execution.proofs.words.add_hl.Goals as goal

pub returns : goal.returns
returns c =
    record {
      there = hl_added _ _ _ _ _ _ _ _ _ c.idle-p.ensures c.reg_hl_read.ensures c.add16-x.ensures c.with_flags.ensures;
    }
