-- Shows a word pushed, the high byte first: the callees' answers, by one law.
use Rattle.bus.proofs.Parts.{pushed}
use Rattle.operands.proofs.stack.stack_push.Goals as goal

pub returns : goal.returns
returns c =
    record {
      there = pushed _ _ _ _ _ _ _ _ _ _ _ c.wrapping_sub-first.ensures c.wrapping_sub-second.ensures c.write-p.ensures c.write-q.ensures c.with_registers-s.ensures;
    }
