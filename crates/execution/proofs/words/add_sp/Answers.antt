-- Shows ADD SP: the callees' answers, by one law.
use Rattle.execution.proofs.words.OnWords.{offset_added}
use Rattle.execution.proofs.words.add_sp.Goals as goal

pub returns : goal.returns
returns c =
    record {
      there = offset_added _ _ _ _ _ _ _ _ _ c.idle-p.ensures c.idle-q.ensures c.add_offset.ensures;
    }
