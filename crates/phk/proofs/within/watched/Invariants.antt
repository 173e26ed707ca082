-- The invariant: what has been answered so far is the run of the steps that are done.
use Rattle.std.proofs.Common.{◌≡◌, length}
use Rattle.phk.proofs.Going.{OnTheWay}
use Rattle.phk.proofs.within.watched.Given as goal

abbrev pub invariant-loop-left : goal.invariant-loop-left
invariant-loop-left l = OnTheWay l.initial.f l.initial.mem l.fn.steps l.left l.f l.mem × (length l.pcs ≡ length l.initial.pcs)

abbrev pub decreases-loop-left : goal.decreases-loop-left
decreases-loop-left l = l.left
