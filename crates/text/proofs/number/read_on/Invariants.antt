-- Shows that what is still to be read, read from here, would end as the whole text does.
use Rattle.std.proofs.Common.{◌≡◌, drop}
use Rattle.text.specs.Number.{reads}
use Rattle.text.proofs.number.read_on.Given as goal

abbrev pub invariant-loop-b : goal.invariant-loop-b
invariant-loop-b l = reads l.r (drop l.b-index l.text) ≡ reads l.fn.before l.text
