-- Shows what the loop keeps: of each lane, whether one of the arrows so far takes it.
use Rattle.std.proofs.Common.{◌≡◌, ◌<◌, ℕ, false, get_or, take}
use Rattle.map.specs.Lanes.{is_taken}
use Rattle.map.proofs.lanes.taken_lanes.Given as goal

abbrev pub invariant-loop-arrow : goal.invariant-loop-arrow
invariant-loop-arrow l = (lane : ℕ) → lane < 256 → get_or l.taken lane false ≡ is_taken (take l.arrow-index l.arrows) l.rows lane
