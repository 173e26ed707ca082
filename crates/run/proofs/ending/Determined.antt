-- The contracts of `stops`, `stopped` and `refused` leave one answer to every input, and `refused` one memory.
use mathlib.Core.Path.{◌≡◌, ap, sym, ◌∙◌}
use mathlib.Core.List.{List}
use Prim.Native.Nat.{ℕ}
use Rattle.sm83.proofs.OneAnswer.{OneAnswer}
use Rattle.definition.specs.Run.{RunAnswer}
use Rattle.run.specs.declared.Ran.{Ran}
use Rattle.run.proofs.ending.stops_run.Reads as stops
use Rattle.run.proofs.ending.stops_last.Reads as stopped
use Rattle.run.proofs.ending.refused.Reads as refused
use Rattle.run.specs.Answers.{run_answer}

pub stops_determined : OneAnswer stops.Post
stops_determined κs input v w left other p q = p ∙ sym q

pub stopped_determined : OneAnswer stopped.Post
stopped_determined κs input v w left other p q = p ∙ sym q

-- the code's answer again, from the definition's
abbrev ran_of : RunAnswer (List ℕ) → Ran
ran_of a = record { last = a.last; cpu = a.cpu; steps = a.steps; cycles = record { 0 = a.cycles } }

-- one equation with the definition's answer pins the code's, and the memory
pub same_run : (a : RunAnswer (List ℕ)) (r q : Ran) (m n : List ℕ) → run_answer r m ≡ a → run_answer q n ≡ a → (r ≡ q) × (m ≡ n)
same_run a r q m n e f = (ap ran_of (e ∙ sym f), ap (λ (x : RunAnswer (List ℕ)). x.memory) (e ∙ sym f))

-- of the arguments, as the two calls leave them, memory is the third
pub refused_determined : (κs : _) (input : _) (r q : Ran) (left other : _) → refused.Post κs input r left → refused.Post κs input q other → (r ≡ q) × (left.1.1.0.now ≡ other.1.1.0.now)
refused_determined κs input r q left other = same_run _ r q left.1.1.0.now other.1.1.0.now
