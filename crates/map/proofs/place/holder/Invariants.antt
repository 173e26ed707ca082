-- Shows what the loop keeps: from here on the walk comes to the same instruction as from the first address.
use Rattle.std.proofs.Common.{◌≡◌, ◌-◌}
use Rattle.map.specs.Place.{holder}
use Rattle.map.proofs.place.holder.Given as goal

abbrev pub invariant-loop-at : goal.invariant-loop-at
invariant-loop-at l = holder l.mem l.first 0 l.first (l.target - l.first) ≡ holder l.mem l.start l.walk.left l.at (l.target - l.at)
