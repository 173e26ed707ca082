-- A run is repeated steps: it ends where that many steps lead, spends what their lists hold, and stops early only after an outcome that stops it.
-- By induction on the budget.
use Rattle.std.specs.Prelude.{None, Option, Some}
use Rattle.std.proofs.Common.{if◌then◌else◌}
use mathlib.Core.Path.{◌≡◌, refl, ap, sym, subst, ◌∙◌}
use mathlib.Core.Bool.{Bool, true, false, not}
use Prim.Native.Nat.{ℕ, zero, suc, ◌+◌, ◌≤◌, ◌<◌}
use native.Mathlib.Nat.{add-zero}
use native.Mathlib.Omega.{arith}
use lib.Dec.{T}
use Rattle.sm83.specs.declared.Cpu.{Cpu}
use Rattle.outcome.specs.declared.Refusal.{Refusal}
use Rattle.outcome.specs.declared.Outcome.{Outcome}
use Rattle.outcome.specs.declared.Outcome.TheVariants.{Refused}
use Rattle.definition.specs.Bus.{Bus, Performed, mcycles}
use Rattle.definition.specs.Step.{Ended, Admission, accepted, refused_as, admission, step_on}
use Rattle.definition.specs.Run.{stops_run, stops_last, RunAnswer, then_rest, repeated, admitted_run, run_for}

-- a state and a memory
pub record Point (W : Type 0) : Type 0 where
  pub cpu : Cpu
  pub memory : W

module _ {W : Type 0} (b : Bus W) where
  -- where k steps lead
  unfoldable pub after_steps : ℕ → Cpu → W → Point W
  after_steps zero s m = record { cpu = s; memory = m }
  after_steps (suc k) s m = after_steps k (step_on b s m).value.cpu (step_on b s m).memory

  -- the step after k steps
  abbrev pub step_after : ℕ → Cpu → W → Performed W Ended
  step_after k s m = step_on b (after_steps k s m).cpu (after_steps k s m).memory

  -- the M-cycles of the first k steps: the lengths of their lists of accesses
  unfoldable pub spent : ℕ → Cpu → W → ℕ
  spent zero s m = 0
  spent (suc k) s m = mcycles (step_on b s m).accesses + spent k (step_on b s m).value.cpu (step_on b s m).memory

  -- the outcome of the last of k steps, or the one before them
  abbrev pub last_of : Option Outcome → ℕ → Cpu → W → Option Outcome
  last_of o zero s m = o
  last_of o (suc k) s m = Some (step_after k s m).value.outcome

-- What the run's answer is, over repeated steps.
pub record Repeats {W : Type 0} (b : Bus W) (o : Option Outcome) (budget : ℕ) (s : Cpu) (m : W) (r : RunAnswer W) : Type 0 where
  pub ends_in : r.cpu ≡ (after_steps b r.steps s m).cpu
  pub leaves : r.memory ≡ (after_steps b r.steps s m).memory
  pub costs : r.cycles ≡ spent b r.steps s m
  pub answers : r.last ≡ last_of b o r.steps s m
  pub in_budget : r.steps ≤ budget
  -- "it stops early only after InfiniteLoop, Breakpoint, Stopped or a refusal"
  pub early : r.steps < budget → T (stops_last r.last)
  -- and at the first of them
  pub not_before : (k : ℕ) → suc k < r.steps → T (not (stops_run (step_after b k s m).value.outcome))

module _ {W : Type 0} (b : Bus W) where
  -- the first step stops the run
  stopped_there : (o : Option Outcome) (n : ℕ) (s : Cpu) (m : W) → T (stops_run (step_on b s m).value.outcome) → Repeats b o (suc n) s m (record { last = Some (step_on b s m).value.outcome; cpu = (step_on b s m).value.cpu; memory = (step_on b s m).memory; steps = 1; cycles = mcycles (step_on b s m).accesses })
  unfolding after_steps spent
  stopped_there o n s m t =
      record { ends_in = refl; leaves = refl; costs = sym (add-zero _); answers = refl; in_budget = omega arith; early = λ h. t; not_before = λ k h. absurd (omega arith) }

  -- the outcome of the last of one more step
  one_more : (o : Option Outcome) (k : ℕ) (s : Cpu) (m : W) → last_of b (Some (step_on b s m).value.outcome) k (step_on b s m).value.cpu (step_on b s m).memory ≡ last_of b o (suc k) s m
  unfolding after_steps
  one_more o zero s m = refl
  one_more o (suc k) s m = refl

  none_before : (n : ℕ) (s : Cpu) (m : W) → T (not (stops_run (step_on b s m).value.outcome)) → ((k : ℕ) → suc k < n → T (not (stops_run (step_after b k (step_on b s m).value.cpu (step_on b s m).memory).value.outcome))) → (k : ℕ) → suc k < suc n → T (not (stops_run (step_after b k s m).value.outcome))
  unfolding after_steps
  none_before n s m t h zero p = t
  none_before n s m t h (suc k) p = h k (omega arith)

  -- the first step goes on, and the rest is a run
  went_on : (o : Option Outcome) (n : ℕ) (s : Cpu) (m : W) (r : RunAnswer W) → T (not (stops_run (step_on b s m).value.outcome)) → Repeats b (Some (step_on b s m).value.outcome) n (step_on b s m).value.cpu (step_on b s m).memory r → Repeats b o (suc n) s m (then_rest (mcycles (step_on b s m).accesses) r)
  unfolding after_steps spent
  went_on o n s m r t h =
      record {
        ends_in = h.ends_in;
        leaves = h.leaves;
        costs = ap (λ (c : ℕ). mcycles (step_on b s m).accesses + c) h.costs;
        answers = h.answers ∙ one_more o r.steps s m;
        in_budget = omega arith;
        early = λ p. h.early (omega arith);
        not_before = none_before r.steps s m t h.not_before;
      }

  pub either_way : (t : Bool) (x y : RunAnswer W) (P : RunAnswer W → Type 0) → (T t → P x) → (T (not t) → P y) → P (if t then x else y)
  either_way true x y P hx hy = hx tt
  either_way false x y P hx hy = hy tt

  pub repeated_repeats : (o : Option Outcome) (budget : ℕ) (s : Cpu) (m : W) → Repeats b o budget s m (repeated b o budget s m)
  unfolding repeated after_steps spent
  repeated_repeats o zero s m =
      record { ends_in = refl; leaves = refl; costs = refl; answers = refl; in_budget = omega arith; early = λ h. absurd (omega arith); not_before = λ k h. absurd (omega arith) }
  repeated_repeats o (suc n) s m =
      let r : Performed W Ended = step_on b s m in
      either_way (stops_run r.value.outcome) _ _ (Repeats b o (suc n) s m) (stopped_there o n s m)
      (λ t. went_on o n s m _ t (repeated_repeats (Some r.value.outcome) n r.value.cpu r.memory))

  -- The run of an accepted state: "A run that does one step and claims the rest, or does all at once, dies because it is defined as repeated steps".
  pub run_repeats : (budget : ℕ) (s : Cpu) (m : W) → admission b s m ≡ accepted → Repeats b None budget s m (run_for b budget s m)
  unfolding run_for
  run_repeats budget s m e =
      subst (λ (v : Admission). Repeats b None budget s m (admitted_run v b budget s m)) (sym e) (repeated_repeats None budget s m)

-- What every step keeps, a run keeps.
abbrev pub LastSays : (Outcome → Type 0) → Option Outcome → Type 0
LastSays O None = Unit {0}
LastSays O (Some o) = O o

module _ {W : Type 0} (b : Bus W) (I : Cpu → W → Type 0) (O : Outcome → Type 0) (steps : (s : Cpu) (m : W) → I s m → I (step_on b s m).value.cpu (step_on b s m).memory × O (step_on b s m).value.outcome) where
  Ends : RunAnswer W → Type 0
  Ends r = I r.cpu r.memory × LastSays O r.last

  repeated_keeps : (o : Option Outcome) (budget : ℕ) (s : Cpu) (m : W) → LastSays O o → I s m → Ends (repeated b o budget s m)
  unfolding repeated Ends
  repeated_keeps o zero s m p h = (h, p)
  repeated_keeps o (suc n) s m p h =
      let r : Performed W Ended = step_on b s m in
      either_way b (stops_run r.value.outcome) _ _ Ends (λ t. steps s m h)
      (λ t. repeated_keeps (Some r.value.outcome) n r.value.cpu r.memory (steps s m h).1 (steps s m h).0)

  admitted_keeps : (v : Admission) (budget : ℕ) (s : Cpu) (m : W) → ((r : Refusal) → v ≡ refused_as r → O (Refused r)) → I s m → Ends (admitted_run v b budget s m)
  unfolding Ends
  admitted_keeps accepted budget s m q h = repeated_keeps None budget s m tt h
  admitted_keeps (refused_as r) budget s m q h = (h, q r refl)

  pub run_keeps : (budget : ℕ) (s : Cpu) (m : W) → ((r : Refusal) → admission b s m ≡ refused_as r → O (Refused r)) → I s m → I (run_for b budget s m).cpu (run_for b budget s m).memory × LastSays O (run_for b budget s m).last
  unfolding run_for Ends
  run_keeps budget s m q h = admitted_keeps (admission b s m) budget s m q h
