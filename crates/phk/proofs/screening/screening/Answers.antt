-- Shows that as many marks are lent as the window has bytes, and the status by the verdict.
use Rattle.std.proofs.Common.{ℕ, suc, ◌-◌, ◌<◌, min, is_ok, replicate, refl, ap, ◌∙◌, arith}
use Rattle.routine.specs.Screen.{screen}
use Rattle.phk.specs.Status.{status_if}
use Rattle.phk.specs.Window.{status_of_verdict}
use Rattle.phk.specs.declared.window.Window.{Window}
use Rattle.phk.proofs.Verdicts.{marks_lent}
use Rattle.phk.proofs.screening.screening.Goals as goal

pub returns : goal.returns
returns c =
    let low : c.asked-window.result.first < 65536 = omega arith in
    let high : c.asked-window.result.last < 65536 = omega arith in
    c.status_if.ensures
    ∙ ap status_if (c.is_ok.ensures.value ∙ ap is_ok c.verdict_told-verdict.ensures)
    ∙ ap status_of_verdict
    (marks_lent c.args.mem.now _ _ _ 65536 _ _ low high refl refl (c.within-n.ensures.value ∙ ap (λ (k : ℕ). min k 65536) c.length.ensures) c.within-n.ensures.prefix_len.1)
    ∙ ap (λ (w : Window). status_of_verdict (screen c.args.mem.now w.first w.last (replicate (suc (w.last - w.first)) 0)).verdict) c.asked-window.ensures
