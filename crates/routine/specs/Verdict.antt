-- What the screen says of a window: it passes, or there is a finding.
use Rattle.std.specs.Prelude.{Result}
use Rattle.routine.specs.declared.Finding.{Finding}

abbrev pub Verdict : Type 0
Verdict = Result (Unit {0}) Finding
