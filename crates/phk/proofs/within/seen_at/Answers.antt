-- Shows the reason by what each call answers.
use Rattle.std.proofs.Common.{◌∙◌}
use Rattle.phk.specs.Watching.{settled}
use Rattle.phk.proofs.within.seen_at.Goals as goal

pub returns : goal.returns
returns c =
    let why = c.settled.ensures ∙ (λ i. settled c.args.why (c.over.ensures i) (c.strays-astray.ensures i)) in
    λ i. record { far = c.args.far; why = why i; home = c.args.home }
