-- Where a run stops, from its being repeated steps: after the first outcome that stops it, or after its whole budget. A step that meets a refusal counts.
use Rattle.std.specs.Prelude.{None, Option, Some}
use Rattle.std.proofs.Common.{if◌then◌else◌}
use mathlib.Core.Path.{◌≡◌, refl, ap, sym, subst, ◌∙◌}
use mathlib.Core.Bool.{Bool, true, false, not}
use Prim.Native.Nat.{ℕ, zero, suc, ◌≤◌, ◌<◌}
use native.Mathlib.Omega.{arith}
use lib.Dec.{T, T_not}
use Rattle.sm83.specs.declared.Cpu.{Cpu}
use Rattle.outcome.specs.declared.Refusal.TheVariants.{IllegalOpcode}
use Rattle.outcome.specs.declared.Outcome.{Outcome}
use Rattle.outcome.specs.declared.Outcome.TheVariants.{Refused}
use Rattle.definition.specs.Bus.{Bus, mcycles}
use Rattle.definition.specs.Step.{Admission, accepted, refused_as, admission, step_on}
use Rattle.definition.specs.Run.{stops_run, RunAnswer, repeated, admitted_run, run_for, stops_last}
use Rattle.definition.proofs.Runs.{step_after, spent, last_of, Repeats, run_repeats}

abbrev has_run : Option Outcome → Bool
has_run None = false
has_run (Some o) = true

module _ {W : Type 0} (b : Bus W) (s : Cpu) (m : W) where
  -- none of the first n steps stops a run
  abbrev pub NoneStops : ℕ → Type 0
  NoneStops n = (k : ℕ) → k < n → T (not (stops_run (step_after b k s m).value.outcome))

  not_stopped : (n : ℕ) → NoneStops n → T (stops_last (last_of b None n s m)) → ⊥
  not_stopped zero g t = t
  not_stopped (suc k) g t = T_not (stops_run (step_after b k s m).value.outcome) (g k (omega arith)) t

  no_steps : (n : ℕ) → last_of b None n s m ≡ None → n ≡ 0
  no_steps zero e = refl
  no_steps (suc k) e = absurd (subst (λ (o : Option Outcome). T (has_run o)) e tt)

  module _ (budget : ℕ) (ok : admission b s m ≡ accepted) where
    it : Repeats b None budget s m (run_for b budget s m)
    it = run_repeats b budget s m ok

    not_early : NoneStops (run_for b budget s m).steps → (run_for b budget s m).steps < budget → ⊥
    not_early g h = not_stopped (run_for b budget s m).steps g (subst (λ (o : Option Outcome). T (stops_last o)) it.answers (it.early h))

    -- if no step stops it, the run does its whole budget
    pub whole_budget : NoneStops budget → (run_for b budget s m).steps ≡ budget
    whole_budget g =
        let most : (run_for b budget s m).steps ≤ budget = it.in_budget in
        let least : (run_for b budget s m).steps < budget → ⊥ = λ h. not_early (λ k p. g k (omega arith)) h in
        omega arith

    -- if step k is the first that stops it, the run does that step and no other
    pub stops_after : (k : ℕ) → k < budget → NoneStops k → T (stops_run (step_after b k s m).value.outcome) → ((run_for b budget s m).steps ≡ suc k) × ((run_for b budget s m).last ≡ Some (step_after b k s m).value.outcome)
    stops_after k h g t =
        let least : (run_for b budget s m).steps ≤ k → ⊥ = λ l. not_early (λ j p. g j (omega arith)) (omega arith) in
        let most : suc k < (run_for b budget s m).steps → ⊥ = λ l. T_not (stops_run (step_after b k s m).value.outcome) (it.not_before k l) t in
        let here : (run_for b budget s m).steps ≡ suc k = omega arith in
        (here, it.answers ∙ ap (λ (n : ℕ). last_of b None n s m) here)

    -- "A step that meets refusal 3 counts", and so do its M-cycles
    pub refusal_counts : (k : ℕ) → k < budget → NoneStops k → (step_after b k s m).value.outcome ≡ Refused IllegalOpcode → ((run_for b budget s m).steps ≡ suc k) × ((run_for b budget s m).last ≡ Some (Refused IllegalOpcode)) × ((run_for b budget s m).cycles ≡ spent b (suc k) s m)
    refusal_counts k h g e =
        let r : ((run_for b budget s m).steps ≡ suc k) × ((run_for b budget s m).last ≡ Some (step_after b k s m).value.outcome) = stops_after k h g (subst (λ (o : Outcome). T (stops_run o)) (sym e) tt) in
        (r.0, r.1 ∙ ap Some e, it.costs ∙ ap (λ (n : ℕ). spent b n s m) r.0)

    -- a budget runs at least one step
    pub nothing_zero : (run_for b budget s m).last ≡ None → budget ≡ 0
    nothing_zero e =
        let here : (run_for b budget s m).steps ≡ 0 = no_steps (run_for b budget s m).steps (sym it.answers ∙ e) in
        let none : (run_for b budget s m).steps < budget → ⊥ = λ h. subst (λ (o : Option Outcome). T (stops_last o)) e (it.early h) in
        omega arith

  pub budget_zero : admission b s m ≡ accepted → run_for b 0 s m ≡ record { last = None; cpu = s; memory = m; steps = 0; cycles = 0 }
  unfolding run_for repeated
  budget_zero ok = ap (λ (v : Admission). admitted_run v b 0 s m) ok

  chosen : (x y : RunAnswer W) {t : Bool} → t ≡ true → (if t then x else y) ≡ x
  chosen x y e = ap (λ (z : Bool). if z then x else y) e

  -- the first step stops the run: the answer whole
  pub stops_at_once : (n : ℕ) → admission b s m ≡ accepted → stops_run (step_on b s m).value.outcome ≡ true → run_for b (suc n) s m ≡ record { last = Some (step_on b s m).value.outcome; cpu = (step_on b s m).value.cpu; memory = (step_on b s m).memory; steps = 1; cycles = mcycles (step_on b s m).accesses }
  unfolding run_for repeated
  stops_at_once n ok e = ap (λ (v : Admission). admitted_run v b (suc n) s m) ok ∙ chosen _ _ e

  by_admission : (budget : ℕ) (v : Admission) → admission b s m ≡ v → (run_for b budget s m).last ≡ None → (admission b s m ≡ accepted) × (budget ≡ 0)
  unfolding run_for
  by_admission budget accepted ok e = (ok, nothing_zero budget ok e)
  by_admission budget (refused_as r) ok e =
      absurd (subst (λ (o : Option Outcome). T (has_run o)) (ap (λ (v : Admission). (admitted_run v b budget s m).last) (sym ok) ∙ e) tt)

  -- ""nothing run" for budget 0": for an accepted state, and for nothing else
  pub nothing_only : (budget : ℕ) → (run_for b budget s m).last ≡ None → (admission b s m ≡ accepted) × (budget ≡ 0)
  nothing_only budget e = by_admission budget (admission b s m) refl e
