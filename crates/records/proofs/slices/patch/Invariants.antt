-- The invariant: what is left of the triples, put into the slice as it is now, gives what all of them give.
use Rattle.std.proofs.Common.{◌≡◌, ◌+◌, ◌-◌, ◌*◌}
use Rattle.records.specs.Bytes.{patched}
use Rattle.records.proofs.slices.patch.Given as goal

abbrev pub invariant-loop-i : goal.invariant-loop-i
invariant-loop-i l = patched l.item (l.at + 3 * l.i) (l.count - l.i) l.s ≡ patched l.item l.at l.count l.fn.s
