-- Shows what the loop keeps: both counts are those of the indexes so far.
use Rattle.std.proofs.Common.{◌≡◌}
use Rattle.map.specs.Counts.{starts_at, jumps_at, how_many}
use Rattle.map.proofs.tally.count.Given as goal

abbrev pub invariant-loop-i : goal.invariant-loop-i
invariant-loop-i l = record { starts : l.instructions ≡ how_many (starts_at l.marks) l.i; jumps : l.jumps ≡ how_many (jumps_at l.mem l.first.0 l.marks) l.i }
