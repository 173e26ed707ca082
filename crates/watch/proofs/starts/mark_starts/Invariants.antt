-- Shows what the loop keeps: how much is marked.
use Rattle.std.proofs.Common.{length}
use Rattle.watch.proofs.starts.Walking.{Marking}
use Rattle.watch.proofs.starts.mark_starts.Given as goal

abbrev pub invariant-loop-i : goal.invariant-loop-i
invariant-loop-i l = Marking l.mem l.fn.first.0 (length l.initial.marks) l.i l.walk.left l.marks
