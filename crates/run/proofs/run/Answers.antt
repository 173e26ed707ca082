-- Shows the run: refusal 1, then 2, then repeated steps.
use Rattle.std.proofs.Common.{eq-eqb}
use Rattle.std.proofs.lemmas.Bool.{ne_eqb}
use mathlib.Core.Path.{◌∙◌}
use Rattle.bus.specs.World.{behind}
use Rattle.run.proofs.Behind.{stands_behind}
use Rattle.run.proofs.Admitted.{refused_length, refused_low_bits, run_accepted}
use Rattle.run.proofs.run.Goals as goal

pub returns-then-clear : goal.returns-then-clear
returns-then-clear c =
    let args = c.args in
    let whole = c.in-Some.ensures.cases in
    let accepted = run_accepted behind stands_behind args.budget args.cpu args.mem.now (eq-eqb _ _ whole.long) (eq-eqb _ _ c.if-clear.true) in
    let steps = rw whole.same at c.repeat.ensures in
    steps ∙ accepted

pub returns-else-clear : goal.returns-else-clear
returns-else-clear c =
    let args = c.args in
    let whole = c.in-Some.ensures.cases in
    let refused = refused_low_bits behind stands_behind args.budget args.cpu args.mem.now (eq-eqb _ _ whole.long) (ne_eqb _ _ c.if-clear.false) in
    let left = rw whole.same at c.refused.ensures in
    left ∙ refused

pub returns-in-None : goal.returns-in-None
returns-in-None c =
    let wrong_length = refused_length behind stands_behind _ _ _ (ne_eqb _ _ c.in-None.ensures.cases) in
    c.refused-in-None.ensures ∙ wrong_length
