-- Shows a word to where the word at PC points, the low byte first: the callees' answers, by one law.
use Rattle.operands.specs.Operands.{write_operand}
use Rattle.bus.proofs.Parts.{word_at_pc}
use Rattle.operands.proofs.places.write_word_at16.Goals as goal

pub returns : goal.returns
unfolding write_operand
returns c =
    record {
      there = word_at_pc _ _ _ _ _ _ _ _ _ _ _ _ _ _ c.fetch16-x.ensures.there c.write-q.ensures c.wrapping_add.ensures c.store.ensures.there;
    }
