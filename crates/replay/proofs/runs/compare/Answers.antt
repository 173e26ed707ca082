-- Shows the comparison from what each callee ensures, by one law over all of them.
use Rattle.std.proofs.Common.{◌∙◌}
use Rattle.replay.proofs.Compared.{run_compared}
use Rattle.replay.proofs.runs.compare.Goals as goal

pub returns : goal.returns
returns c =
    run_compared _ _ _ _ _ _ _ _ _ _ _ _ _ _ _ _
    (c.from-listed.ensures ∙ c.listed.ensures) (c.from-count.ensures ∙ c.changed.ensures) c.lay.ensures c.lay-2.ensures c.patch.ensures
    c.copy_from_slice.ensures.after c.word_at-budget.ensures c.kind.ensures c.ask-number.ensures c.as_told.ensures
