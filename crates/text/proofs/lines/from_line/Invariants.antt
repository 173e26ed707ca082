-- Shows that the lines still to be passed, counted from here, end where all of them do.
use Rattle.std.proofs.Common.{◌≡◌, drop}
use Rattle.text.specs.Lines.{from_line}
use Rattle.text.proofs.lines.from_line.Given as goal

abbrev pub invariant-loop-i : goal.invariant-loop-i
invariant-loop-i l = from_line l.left (drop l.i l.text) ≡ from_line l.n l.text
