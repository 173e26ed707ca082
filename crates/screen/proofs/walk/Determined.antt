-- Of one window any pair of answers that meet the contract of `walk`, as the source states it, is identical, with every mark, also where it refuses.
use mathlib.Core.Path.{◌≡◌, sym, ◌∙◌}
use Rattle.routine.specs.Verdict.{Verdict}
use Rattle.screen.proofs.walk.walk.Reads.{Post}

-- of one input: two answers, and the arguments as the two calls leave them, of which the last is the marks
pub determined : (κs : _) (input : _) (v w : Verdict) (left other : _) → Post κs input v left → Post κs input w other → (v ≡ w) × (left.1.1.0.now ≡ other.1.1.0.now)
determined κs input v w left other p q = (p.finding ∙ sym q.finding, cc)
