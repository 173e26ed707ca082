-- Shows what the loop keeps: of the addresses that are left the highest is the same as of all.
use Rattle.std.proofs.Common.{◌≡◌}
use Rattle.map.specs.Passing.{highest}
use Rattle.map.proofs.passing.highest.Given as goal

abbrev pub invariant-loop-left : goal.invariant-loop-left
invariant-loop-left l = highest l.mem l.first.0 l.count ≡ highest l.mem l.first.0 l.left
