-- The processor alone: the trace whose memory no host changes, and the budgeted run as the first steps of that trace.
use Rattle.std.specs.Prelude.{None, Option, Some}
use Rattle.std.proofs.Common.{if◌then◌else◌}
use mathlib.Core.Path.{◌≡◌, refl, ap, sym, subst, subst⁻¹, ◌∙◌}
use mathlib.Core.Bool.{Bool, true, false}
use Prim.Native.Nat.{ℕ, zero, suc, ◌<◌}
use native.Mathlib.Omega.{arith}
use Rattle.sm83.specs.declared.Cpu.{Cpu}
use Rattle.definition.specs.Bus.{Bus, mcycles}
use Rattle.definition.specs.Step.{accepted, admission, step_on}
use Rattle.definition.specs.Run.{stops_run, RunAnswer, then_rest, repeated, run_for}
use Rattle.definition.proofs.Split.{run_as}
use Rattle.routine.specs.Trace.{state_at, step_at, memory_at}
use Rattle.outcome.specs.declared.Outcome.{Outcome}

either_way : {W : Type 0} (P : RunAnswer W → Type 0) (test : Bool) (x y : RunAnswer W) → P x → P y → P (if test then x else y)
either_way P true x y p q = p
either_way P false x y p q = q

module _ {W : Type 0} (b : Bus W) where
  abbrev cpu_after : Cpu → W → Cpu
  cpu_after s m = (step_on b s m).value.cpu

  abbrev memory_after : Cpu → W → W
  memory_after s m = (step_on b s m).memory

  abbrev outcome_of : Cpu → W → Option Outcome
  outcome_of s m = Some (step_on b s m).value.outcome

  -- a trace from its second step on
  later : (mem : ℕ → W) (s : Cpu) (k : ℕ) → state_at b mem s (suc k) ≡ state_at b (λ i. mem (suc i)) (cpu_after s (mem 0)) k
  unfolding state_at
  later mem s zero = refl
  later mem s (suc k) = ap (λ (t : Cpu). cpu_after t (mem (suc k))) (later mem s k)

  -- alone, the memory before a step is what the step before it left
  pub alone : (s : Cpu) (m : W) (k : ℕ) → memory_at b s m (suc k) ≡ (step_at b (memory_at b s m) s k).memory
  unfolding memory_at state_at
  alone s m zero = refl
  alone s m (suc k) = alone (cpu_after s m) (memory_after s m) k ∙ ap (λ (t : Cpu). memory_after t (memory_at b s m (suc k))) (sym (later (memory_at b s m) s k))

  -- what is left to run after a step; and a run that may do a step: it stops after it, or goes on
  abbrev rest : ℕ → Cpu → W → RunAnswer W
  rest budget s m = repeated b (outcome_of s m) budget (cpu_after s m) (memory_after s m)

  one_step : (P : RunAnswer W → Type 0) (budget : ℕ) (o : Option Outcome) (s : Cpu) (m : W) → P (record { last = outcome_of s m; cpu = cpu_after s m; memory = memory_after s m; steps = 1; cycles = mcycles (step_on b s m).accesses }) → P (then_rest (mcycles (step_on b s m).accesses) (rest budget s m)) → P (repeated b o (suc budget) s m)
  unfolding repeated
  one_step P budget o s m = either_way P (stops_run (step_on b s m).value.outcome) _ (then_rest (mcycles (step_on b s m).accesses) (rest budget s m))

  -- a run ends where its steps lead
  abbrev AtItsEnd : Cpu → W → RunAnswer W → Type 0
  AtItsEnd s m r = (r.cpu ≡ state_at b (memory_at b s m) s r.steps) × (r.memory ≡ memory_at b s m r.steps)

  at_its_end : (budget : ℕ) (o : Option Outcome) (s : Cpu) (m : W) → AtItsEnd s m (repeated b o budget s m)
  unfolding repeated memory_at state_at
  at_its_end zero o s m = (refl, refl)
  at_its_end (suc budget) o s m =
      let e : AtItsEnd (cpu_after s m) (memory_after s m) (rest budget s m) = at_its_end budget (outcome_of s m) (cpu_after s m) (memory_after s m) in
      one_step (AtItsEnd s m) budget o s m (refl, refl) (e.0 ∙ sym (later (memory_at b s m) s (rest budget s m).steps), e.1)

  -- what holds of each step's outcome, and of the outcome before, holds of a run's last
  module _ (P : Option Outcome → Type 0) where
    abbrev Each : Cpu → W → RunAnswer W → Type 0
    Each s m r = (i : ℕ) → i < r.steps → P (Some (step_at b (memory_at b s m) s i).value.outcome)

    lastly : (budget : ℕ) (o : Option Outcome) (s : Cpu) (m : W) → P o → Each s m (repeated b o budget s m) → P (repeated b o budget s m).last
    unfolding repeated memory_at state_at
    lastly zero o s m before = λ each. before
    lastly (suc budget) o s m before =
        one_step (λ (r : RunAnswer W). Each s m r → P r.last) budget o s m
        (λ each. each 0 (omega arith))
        (λ each. lastly budget (outcome_of s m) (cpu_after s m) (memory_after s m) (each 0 (omega arith)) (λ i below. subst (λ (t : Cpu). P (outcome_of t (memory_at b s m (suc i)))) (later (memory_at b s m) s i) (each (suc i) (omega arith))))

  -- The run, of a state that it accepts.
  module _ (budget : ℕ) (s : Cpu) (m : W) (accepts : admission b s m ≡ accepted) where
    runs : run_for b budget s m ≡ repeated b None budget s m
    runs = run_as b budget s m accepts

    pub run_end : AtItsEnd s m (run_for b budget s m)
    run_end = subst⁻¹ (AtItsEnd s m) runs (at_its_end budget None s m)

    pub run_last : (P : Option Outcome → Type 0) → P None → Each P s m (run_for b budget s m) → P (run_for b budget s m).last
    run_last P nothing = subst⁻¹ (λ (r : RunAnswer W). Each P s m r → P r.last) runs (lastly P budget None s m nothing)
