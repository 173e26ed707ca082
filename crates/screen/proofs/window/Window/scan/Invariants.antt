-- Shows what the loop keeps: for each test that the closure is, the scan from the first index on comes to the same as the scan from here on.
use Rattle.std.proofs.Common.{◌≡◌, ℕ, Bool, length}
use Rattle.sm83.specs.declared.Addr.{Addr}
use Rattle.routine.specs.Screen.{is_marked, scan}
use Rattle.screen.proofs.window.Scanning.{scan_from}
use Rattle.screen.proofs.window.Window.scan.Given as goal

abbrev pub invariant-loop-index : goal.invariant-loop-index
invariant-loop-index g l =
    (test : ℕ → Bool) → ((at : Addr) (b : Bool) → goal.P-post g l.passes at b → b ≡ test at.0)
    → scan l.refusal (is_marked l.self.marks.now l.self.first.0) test l.self.first.0 (length l.self.marks.now) ≡ scan_from l.refusal test l.self.first.0 l.self.marks.now l.index
