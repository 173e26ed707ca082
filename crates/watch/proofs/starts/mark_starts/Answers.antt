-- Shows that each turn marks one byte more.
use Rattle.watch.proofs.starts.Walking.{onward, ended}
use Rattle.watch.proofs.starts.mark_starts.Goals as goal

pub loop-i-preserved : goal.loop-i-preserved
loop-i-preserved c = onward _ _ _ c.loop-i.invariant c.loop-i-test.true c.byte_at.result c.starts-start.new.self.left c.from.result c.starts-start.result c.byte_at.ensures c.starts-start.ensures.start c.starts-start.ensures.left c.from.ensures

pub returns : goal.returns
returns c = ended _ _ _ c.loop-i.invariant c.loop-i-test.false
