-- Shows that the walk and the tests after it decide; the marks stay as the walk left them, or are cleared.
use mathlib.Core.Path.{◌≡◌, refl, ◌∙◌}
use mathlib.Core.Bool.{true, false}
use Rattle.std.proofs.Common.{rules}
use Rattle.std.specs.Prelude.{is_err}
use Rattle.screen.proofs.Whole.{walk_decides, tests_decide}
use Rattle.screen.proofs.judge.Goals as goal

pub returns-in_err-walk : goal.returns-in_err-walk
returns-in_err-walk c = walk_decides c.walk.ensures c.in_err-walk.was c.from_residual.result (search rules)

pub returns-then-refused : goal.returns-then-refused
returns-then-refused c =
    let refused : is_err c.tested-found.result ≡ true = search rules in
    tests_decide c.walk.ensures c.in_ok-walk.was c.tested-found.result c.tested-found.ensures c.fill.new.self (c.fill.ensures.after (λ y same. same) ∙ rw refused refl)

pub returns-else-refused : goal.returns-else-refused
returns-else-refused c =
    let passes : is_err c.tested-found.result ≡ false = search rules in
    tests_decide c.walk.ensures c.in_ok-walk.was c.tested-found.result c.tested-found.ensures c.walk.new.marks (rw passes refl)
