-- Shows that what is left of the form, filled in from here, would make the whole text.
use Rattle.std.proofs.Common.{drop, ◌≤◌}
use Rattle.text.specs.Form.{filled_from}
use Rattle.text.proofs.page.Written.{Leads}
use Rattle.text.proofs.page.Page.fill.Given as goal

abbrev pub invariant-loop-b : goal.invariant-loop-b
invariant-loop-b l =
    (l.k ≤ l.b-index) × Leads l.initial.page (filled_from 0 l.form l.values l.word) l.page (filled_from l.k (drop l.b-index l.form) l.values l.word)
