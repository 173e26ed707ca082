-- Shows a word popped, the low byte first: the callees' answers, by one law.
use Rattle.bus.proofs.Parts.{popped}
use Rattle.operands.proofs.stack.stack_pop.Goals as goal

pub returns : goal.returns
returns c =
    record {
      there = popped _ _ _ _ _ _ _ _ _ _ _ _ _ c.read-low.ensures c.wrapping_add-second.ensures c.read-high.ensures c.wrapping_add-after.ensures c.pair.ensures c.with_registers-s.ensures;
    }
