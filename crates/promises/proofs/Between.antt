-- What lies between the ends of a run can be seen by calls of `run`: with a budget of no more steps than a call did, from the same state and memory, another call ends at the state before that step.
use Rattle.std.specs.Prelude.{None}
use Rattle.std.proofs.Common.{if◌then◌else◌}
use mathlib.Core.Path.{◌≡◌, refl, ap, subst, subst⁻¹, ◌∙◌}
use mathlib.Core.Bool.{Bool, true, false}
use mathlib.Core.List.{List}
use Prim.Native.Nat.{ℕ, ◌+◌, ◌-◌, ◌≤◌, ◌<◌}
use native.Mathlib.Omega.{arith}
use lib.Dec.{T, leb}
use borrow.Author.Tests.{leb-true, leb-false}
use Rattle.sm83.specs.declared.Cpu.{Cpu}
use Rattle.definition.specs.Bus.{Bus, plain}
use Rattle.definition.specs.Step.{Admission, accepted, refused_as, admission}
use Rattle.definition.specs.Run.{stops_last, RunAnswer, repeated, run_for}
use Rattle.definition.proofs.Runs.{repeated_repeats}
use Rattle.definition.proofs.Split.{repeated_in_two, run_as}
use Rattle.routine.specs.Trace.{state_at, memory_at}
use Rattle.routine.proofs.Alone.{run_end}
use Rattle.promises.proofs.Calls.{RunCall, state_run, memory_run, budget_of, answered, run_answers}

module _ {W : Type 0} (b : Bus W) (s : Cpu) (m : W) where
  stopped : (t : Bool) (x y : RunAnswer W) → T t → (if t then x else y) ≡ x
  stopped true x y h = refl
  stopped false x y h = absurd h

  -- a run that does at least i steps begins with a run of i steps, which does them all: had that stopped before, so had the longer one
  whole_piece : (i j : ℕ) → i ≤ (repeated b None (i + j) s m).steps → (repeated b None i s m).steps ≡ i
  whole_piece i j reached = by (leb i r.steps) refl
    where
      r : RunAnswer W
      r = repeated b None i s m

      by : (t : Bool) → leb i r.steps ≡ t → r.steps ≡ i
      by true e = let h : i ≤ r.steps = leb-true i r.steps e in let most : r.steps ≤ i = (repeated_repeats b None i s m).in_budget in omega arith
      by false e =
          let less : r.steps < i = leb-false i r.steps e in
          let same : repeated b None (i + j) s m ≡ r = repeated_in_two b None tt i j s m ∙ stopped (stops_last r.last) r _ ((repeated_repeats b None i s m).early less) in
          let steps : (repeated b None (i + j) s m).steps ≡ r.steps = ap (λ (x : RunAnswer W). x.steps) same in
          absurd (omega arith)

  -- the run of i steps, of one that does at least so many: it does them all, and ends at the state before the next
  abbrev Reaches : ℕ → RunAnswer W → Type 0
  Reaches i r = (r.steps ≡ i) × (r.cpu ≡ state_at b (memory_at b s m) s i)

  reaches : (v : Admission) → admission b s m ≡ v → (i budget : ℕ) → i ≤ (run_for b budget s m).steps → Reaches i (run_for b i s m)
  unfolding state_at
  reaches accepted e i budget reached =
      let long : (run_for b budget s m).steps ≡ (repeated b None budget s m).steps = ap (λ (r : RunAnswer W). r.steps) (run_as b budget s m e) in
      let most : (repeated b None budget s m).steps ≤ budget = (repeated_repeats b None budget s m).in_budget in
      let sum : budget ≡ i + (budget - i) = omega arith in
      let split : (repeated b None budget s m).steps ≡ (repeated b None (i + (budget - i)) s m).steps = ap (λ (n : ℕ). (repeated b None n s m).steps) sum in
      let all : (run_for b i s m).steps ≡ i = ap (λ (r : RunAnswer W). r.steps) (run_as b i s m e) ∙ whole_piece i (budget - i) (omega arith) in
      (all, (run_end b i s m e).0 ∙ ap (state_at b (memory_at b s m) s) all)
  reaches (refused_as r) e i budget reached =
      let none : (run_for b budget s m).steps ≡ 0 = ap (λ (x : RunAnswer W). x.steps) (run_as b budget s m e) in
      let zero-steps : 0 ≡ i = omega arith in
      (ap (λ (x : RunAnswer W). x.steps) (run_as b i s m e) ∙ zero-steps, ap (λ (x : RunAnswer W). x.cpu) (run_as b i s m e) ∙ ap (state_at b (memory_at b s m) s) zero-steps)

-- "every PC": of a call c of `run`, the state before step i is what a call d answers
module _ (c d : RunCall) (same-state : state_run d ≡ state_run c) (same_memory : memory_run d ≡ memory_run c) (no_more : budget_of d ≤ c.ran.steps) where
  pub stopped_in_between : (d.ran.steps ≡ budget_of d) × (d.ran.cpu ≡ state_at plain (memory_at plain (state_run c) (memory_run c)) (state_run c) (budget_of d))
  stopped_in_between =
      let reached : budget_of d ≤ (run_for plain (budget_of c) (state_run c) (memory_run c)).steps = subst (λ (r : RunAnswer (List ℕ)). budget_of d ≤ r.steps) (run_answers c) no_more in
      let there : Reaches plain (state_run c) (memory_run c) (budget_of d) (run_for plain (budget_of d) (state_run c) (memory_run c)) = reaches plain (state_run c) (memory_run c) (admission plain (state_run c) (memory_run c)) refl (budget_of d) (budget_of c) reached in
      let same : answered d ≡ run_for plain (budget_of d) (state_run c) (memory_run c) =
      run_answers d ∙ ap (λ (s : Cpu). run_for plain (budget_of d) s (memory_run d)) same-state ∙ ap (run_for plain (budget_of d) (state_run c)) same_memory in
      subst⁻¹ (Reaches plain (state_run c) (memory_run c) (budget_of d)) same there
