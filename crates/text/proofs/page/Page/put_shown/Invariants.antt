-- Shows that what is left of the word, shown from here, would make the whole text.
use Rattle.std.proofs.Common.{drop}
use Rattle.text.specs.Shown.{shown_from}
use Rattle.text.proofs.page.Written.{Leads}
use Rattle.text.proofs.page.Page.put_shown.Given as goal

abbrev pub invariant-loop-b : goal.invariant-loop-b
invariant-loop-b l = Leads l.fn.self (shown_from 0 l.word) l.self (shown_from l.before (drop l.b-index l.word))
