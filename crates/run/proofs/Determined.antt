-- "Determinacy is proved by showing any pair of conforming answers identical": the contracts of the run and of the step, as the source states them (`Post` and `Pre` are made from it), leave one answer and one memory, and ask nothing of their input.
use mathlib.Core.Path.{◌≡◌, ap, sym, ◌∙◌}
use Prim.Native.Nat.{ℕ}
use Rattle.sm83.specs.declared.Cpu.{Cpu}
use Rattle.sm83.proofs.OneAnswer.{AnyInput}
use Rattle.outcome.specs.declared.Outcome.{Outcome}
use Rattle.run.specs.declared.Ran.{Ran}
use Rattle.run.proofs.ending.Determined.{same_run}
use Rattle.run.specs.declared.Stepped.{Stepped}
use Rattle.run.proofs.run.Reads as run
use Rattle.run.proofs.step.Reads as step

pub run_takes_any_input : AnyInput run.Pre
run_takes_any_input κs input = tt

pub step_takes_any_input : AnyInput step.Pre
step_takes_any_input κs input = tt

-- Of one input: two answers, and the arguments as the two calls leave them, of which the second is memory.

pub run_determined : (κs : _) (input : _) (r q : Ran) (left other : _) → run.Post κs input r left → run.Post κs input q other → (r ≡ q) × (left.1.0.now ≡ other.1.0.now)
run_determined κs input r q left other = same_run _ r q left.1.0.now other.1.0.now

abbrev stepped_of : Outcome → Cpu → ℕ → Stepped
stepped_of o t c = record { outcome = o; cpu = t; cycles = record { 0 = c } }

pub step_determined : (κs : _) (input : _) (r q : Stepped) (left other : _) → step.Post κs input r left → step.Post κs input q other → (r ≡ q) × (left.1.0.now ≡ other.1.0.now)
step_determined κs input r q left other e f = (
  ap (λ (o : Outcome). stepped_of o r.cpu r.cycles.0) (e.outcome ∙ sym f.outcome)
      ∙ ap (λ (t : Cpu). stepped_of q.outcome t r.cycles.0) (e.cpu ∙ sym f.cpu)
      ∙ ap (λ (c : ℕ). stepped_of q.outcome q.cpu c) (e.cycles ∙ sym f.cycles),
  e.memory ∙ sym f.memory,
)
