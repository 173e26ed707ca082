-- Shows how far the walk has come, and that it ends: its measure is the bytes that are left.
use Rattle.std.proofs.Common.{◌-◌}
use Rattle.screen.proofs.walk.Reached.{Reached}
use Rattle.screen.proofs.walk.walk.Given as goal

abbrev pub invariant-loop-at : goal.invariant-loop-at
invariant-loop-at l = Reached l.mem l.first.0 l.n l.at l.marks

abbrev pub decreases-loop-at : goal.decreases-loop-at
decreases-loop-at l = l.n - l.at
