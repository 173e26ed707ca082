-- The invariant: the differences so far and those of what is left are those of the whole sample.
use Rattle.std.proofs.Common.{◌≡◌, ◌+◌, ◌-◌, ◌≤◌, length, drop}
use Rattle.replay.specs.Replay.{differing}
use Rattle.replay.proofs.rounds.replay.Given as goal

abbrev pub invariant-loop-i : goal.invariant-loop-i
invariant-loop-i l =
    (l.at ≤ length l.file) × (l.differ ≤ l.i) × (l.differ + differing (l.count - l.i) (drop l.at l.file) ≡ differing l.count (drop 2 l.file))
