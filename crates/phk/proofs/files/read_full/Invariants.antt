-- Shows that the loop ends: the bytes that are left to fill; memory is as long as before.
use Rattle.std.proofs.Common.{length, ◌-◌, ◌≡◌, ◌≤◌}
use Rattle.phk.proofs.files.read_full.Given as goal

abbrev pub invariant-loop-done : goal.invariant-loop-done
invariant-loop-done l = (length l.mem ≡ length l.initial.mem) × (l.done ≤ length l.mem)

abbrev pub decreases-loop-done : goal.decreases-loop-done
decreases-loop-done l = length l.initial.mem - l.done
