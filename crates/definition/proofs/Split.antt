-- A run equals its pieces: so many steps and then so many more are one run, unless the first piece stops early.
-- By induction on the first budget.
use Rattle.std.specs.Prelude.{None, Option, Some}
use Rattle.std.proofs.Common.{if◌then◌else◌}
use mathlib.Core.Path.{◌≡◌, refl, ap, ap₂, sym, ◌∙◌}
use mathlib.Core.Bool.{Bool, true, false, not}
use Prim.Native.Nat.{ℕ, zero, suc, ◌+◌}
use native.Mathlib.Omega.{arith}
use lib.Dec.{T}
use Rattle.sm83.specs.declared.Cpu.{Cpu}
use Rattle.outcome.specs.declared.Outcome.{Outcome}
use Rattle.definition.specs.Bus.{Bus, Performed, mcycles}
use Rattle.definition.specs.Step.{Ended, Admission, accepted, refused_as, admission, step_on}
use Rattle.definition.specs.Run.{stops_run, stops_last, RunAnswer, then_rest, repeated, admitted_run, run_for}
use Rattle.definition.proofs.Runs.{either_way}

-- the last outcome of two pieces
abbrev pub later_of : Option Outcome → Option Outcome → Option Outcome
later_of o None = o
later_of o (Some p) = Some p

-- a run, and another from its end: steps and M-cycles add up
abbrev pub followed_by : {W : Type 0} → RunAnswer W → RunAnswer W → RunAnswer W
followed_by r t = record { last = later_of r.last t.last; cpu = t.cpu; memory = t.memory; steps = r.steps + t.steps; cycles = r.cycles + t.cycles }

-- the other only if the first has not stopped
abbrev pub unless_stopped : {W : Type 0} → RunAnswer W → RunAnswer W → RunAnswer W
unless_stopped r t = if stops_last r.last then r else followed_by r t

module _ {W : Type 0} where
  -- what a known test chooses
  stops : (t : Bool) (x y : RunAnswer W) → T t → x ≡ (if t then x else y)
  stops true x y h = refl
  stops false x y h = absurd h

  goes_on : (t : Bool) (x y : RunAnswer W) → T (not t) → y ≡ (if t then x else y)
  goes_on true x y h = absurd h
  goes_on false x y h = refl

  -- the same test on both sides
  both_ways : (F : RunAnswer W → RunAnswer W) (t : Bool) (x y z : RunAnswer W) → (T t → x ≡ F x) → (T (not t) → y ≡ F z) → (if t then x else y) ≡ F (if t then x else z)
  both_ways F true x y z hx hy = hx tt
  both_ways F false x y z hx hy = hy tt

  -- one step before two pieces is before the first of them
  step_before : (c : ℕ) (t : Bool) (r k : RunAnswer W) → then_rest c (if t then r else followed_by r k) ≡ (if t then then_rest c r else followed_by (then_rest c r) k)
  step_before c true r k = refl
  step_before c false r k =
      ap₂ (λ (n d : ℕ). record { last = later_of r.last k.last; cpu = k.cpu; memory = k.memory; steps = n; cycles = d }) (omega arith) (omega arith)

  -- nothing run yet
  abbrev begun : Option Outcome → Cpu → W → RunAnswer W
  begun o s m = record { last = o; cpu = s; memory = m; steps = 0; cycles = 0 }

  nothing_before : (o : Option Outcome) (s : Cpu) (m : W) (r : RunAnswer W) → later_of o r.last ≡ r.last → r ≡ followed_by (begun o s m) r
  nothing_before o s m r e =
      let n : r.steps ≡ 0 + r.steps = omega arith in
      let c : r.cycles ≡ 0 + r.cycles = omega arith in
      λ i. record { last = sym e i; cpu = r.cpu; memory = r.memory; steps = n i; cycles = c i }

module _ {W : Type 0} (b : Bus W) where
  -- after a step it is not asked what was before it
  later : (o : Option Outcome) (p : Outcome) (n : ℕ) (s : Cpu) (m : W) → later_of o (repeated b (Some p) n s m).last ≡ (repeated b (Some p) n s m).last
  unfolding repeated
  later o p zero s m = refl
  later o p (suc n) s m =
      let r : Performed W Ended = step_on b s m in
      either_way b (stops_run r.value.outcome) _ _ (λ x. later_of o x.last ≡ x.last) (λ t. refl) (λ t. later o r.value.outcome n r.value.cpu r.memory)

  afresh : (o : Option Outcome) (n : ℕ) (s : Cpu) (m : W) → repeated b o n s m ≡ followed_by (begun o s m) (repeated b None n s m)
  unfolding repeated
  afresh o zero s m = refl
  afresh o (suc n) s m =
      let r : Performed W Ended = step_on b s m in
      either_way b (stops_run r.value.outcome) _ _ (λ x. x ≡ followed_by (begun o s m) x) (λ t. nothing_before o s m _ refl)
      (λ t. nothing_before o s m _ (later o r.value.outcome n r.value.cpu r.memory))

  -- what j steps more make of a run that has come to r
  abbrev pub more : ℕ → RunAnswer W → RunAnswer W
  more j r = unless_stopped r (repeated b None j r.cpu r.memory)

  pub repeated_in_two : (o : Option Outcome) → T (not (stops_last o)) → (i j : ℕ) (s : Cpu) (m : W) → repeated b o (i + j) s m ≡ more j (repeated b o i s m)
  unfolding repeated
  repeated_in_two o h zero j s m =
      let e : 0 + j ≡ j = omega arith in
      ap (λ (n : ℕ). repeated b o n s m) e ∙ afresh o j s m ∙ goes_on (stops_last o) (begun o s m) _ h
  repeated_in_two o h (suc i) j s m =
      let e : suc i + j ≡ suc (i + j) = omega arith in
      let r : Performed W Ended = step_on b s m in
      let c : ℕ = mcycles r.accesses in
      let rest : RunAnswer W = repeated b (Some r.value.outcome) i r.value.cpu r.memory in
      ap (λ (n : ℕ). repeated b o n s m) e
      ∙ both_ways (more j) (stops_run r.value.outcome) _ _ (then_rest c rest)
      (λ t. stops (stops_run r.value.outcome) _ _ t)
      (λ t. ap (then_rest c) (repeated_in_two (Some r.value.outcome) t i j r.value.cpu r.memory) ∙ step_before c (stops_last rest.last) rest (repeated b None j rest.cpu rest.memory))

  pub run_as : (n : ℕ) (s : Cpu) (m : W) {v : Admission} → admission b s m ≡ v → run_for b n s m ≡ admitted_run v b n s m
  unfolding run_for
  run_as n s m e = ap (λ (v : Admission). admitted_run v b n s m) e

  -- a run, and from its end a second one
  abbrev pub then_run : ℕ → RunAnswer W → RunAnswer W
  then_run j r = unless_stopped r (run_for b j r.cpu r.memory)

  module _ (i j : ℕ) (s : Cpu) (m : W) (again : admission b s m ≡ accepted → admission b (run_for b i s m).cpu (run_for b i s m).memory ≡ accepted) where
    by_admission : (v : Admission) → admission b s m ≡ v → run_for b (i + j) s m ≡ then_run j (run_for b i s m)
    by_admission accepted e =
        run_as (i + j) s m e
        ∙ repeated_in_two None tt i j s m
        ∙ ap (more j) (sym (run_as i s m e))
        ∙ ap (unless_stopped (run_for b i s m)) (sym (run_as j _ _ (again e)))
    by_admission (refused_as r) e = run_as (i + j) s m e ∙ ap (then_run j) (sym (run_as i s m e))

    -- Runs: where a state that is accepted before the first is accepted after it. What is refused stops both.
    pub run_in_two : run_for b (i + j) s m ≡ then_run j (run_for b i s m)
    run_in_two = by_admission (admission b s m) refl
