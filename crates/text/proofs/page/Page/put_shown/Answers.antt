-- Shows that one byte more leaves the text as it was, and that nothing is left at the word's end.
use Rattle.text.proofs.shown.Controls.{one_byte, no_byte}
use Rattle.text.proofs.page.Page.put_shown.Goals as goal

pub loop-b-preserved : goal.loop-b-preserved
loop-b-preserved c = one_byte c.args.word.now c.loop-b.before c.loop-b.b-index c.loop-b.invariant c.loop-b-test.true c.put_shown_byte.ensures

pub returns : goal.returns
returns c = no_byte c.args.word.now c.loop-b.before c.loop-b.b-index c.loop-b.invariant c.loop-b-test.false
