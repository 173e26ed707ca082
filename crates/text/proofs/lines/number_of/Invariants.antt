-- Shows that what is still to be searched, counted from here, gives the number that the whole text gives.
use Rattle.std.proofs.Common.{◌≡◌, true, drop, ◌≤◌}
use Rattle.text.specs.Lines.{number_from}
use Rattle.text.proofs.lines.number_of.Given as goal

abbrev pub invariant-loop-i : goal.invariant-loop-i
invariant-loop-i l = (l.n ≤ l.i) × (number_from l.n l.starts (drop l.i l.text) l.word ≡ number_from 0 true l.text l.word)
