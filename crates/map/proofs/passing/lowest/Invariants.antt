-- Shows what the loop keeps: from here on the search comes to the same answer as from its start.
use Rattle.std.proofs.Common.{◌≡◌, ◌-◌}
use Rattle.map.specs.Passing.{lowest}
use Rattle.map.proofs.passing.lowest.Given as goal

abbrev pub invariant-loop-at : goal.invariant-loop-at
invariant-loop-at l = lowest l.mem l.first.0 l.from (l.end - l.from) ≡ lowest l.mem l.first.0 l.at (l.end - l.at)
