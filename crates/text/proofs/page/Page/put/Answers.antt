-- Shows that one byte more is the text's next.
use Rattle.text.proofs.page.Written.{one_more}
use Rattle.text.proofs.page.Page.put.Goals as goal

pub loop-b-preserved : goal.loop-b-preserved
loop-b-preserved c = one_more c.args.text.now c.loop-b.b-index c.loop-b-test.true c.loop-b.invariant c.put_byte.ensures
