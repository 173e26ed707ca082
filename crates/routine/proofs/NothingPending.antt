-- Demand 3's own words are enough: in a passed routine no call is ever pending, so that nothing is asked of a step or of a host but that it spares the routine, and of a step that it takes no return.
use mathlib.Core.Path.{◌≡◌}
use mathlib.Core.Bool.{Bool, true, false, not, ◌||◌}
use mathlib.Core.List.{List}
use Prim.Native.Nat.{ℕ, zero, suc, ◌≤◌, ◌<◌}
use native.Mathlib.Omega.{arith}
use lib.Dec.{T}
use Rattle.sm83.specs.declared.Cpu.{Cpu}
use Rattle.definition.specs.Bus.{Bus}
use Rattle.routine.specs.Trace.{spares, Pending, finds_last, takes_return, SameWindow, state_at, step_at, pending_at, Stays, GoesOn, memory_at, run_state_at, run_at, run_memory, run_pending_at, RunStaysToTheEnd, RunGoesOn}
use Rattle.routine.proofs.NoCalls.{none_spared, none_same}
use Rattle.routine.proofs.Covered.{Covered, Passed, host_covered}
use Rattle.routine.proofs.Demand3.{CoveredAt, Onward, leaves_covered, keeps_covered, alone_onward}
use Rattle.routine.proofs.RunDemand3.{run_covered}

module _ {W : Type 0} (b : Bus W) (first n : ℕ) where
  -- step i takes no return and writes nothing into the routine
  pub record Inside (mem : ℕ → W) (s : Cpu) (i : ℕ) : Type 0 where
    pub no_return : T (not (takes_return b (state_at b mem s i) (mem i)))
    pub no_write : T (spares first n (step_at b mem s i).accesses)

  -- nor does a host write into it, before the next step
  pub record LeftAlone (mem : ℕ → W) (s : Cpu) (i : ℕ) : Type 0 where
    pub inside : Inside mem s i
    pub host : SameWindow b first n (step_at b mem s i).memory (mem (suc i))
    pub whole : b.size (mem (suc i)) ≡ 65536

  -- the same of the steps of run j, and of a host before the next run
  pub record RunLeftAlone (budget : ℕ → ℕ) (mem : ℕ → W) (s : Cpu) (j : ℕ) : Type 0 where
    pub inside : (i : ℕ) → i < (run_at b budget mem s j).steps → Inside (run_memory b budget mem s j) (run_state_at b budget mem s j) i
    pub host : SameWindow b first n (run_at b budget mem s j).memory (mem (suc j))
    pub whole : b.size (mem (suc j)) ≡ 65536

or_second : (p q : Bool) → T q → T (p || q)
or_second true q h = tt
or_second false q h = h

module _ {W : Type 0} {b : Bus W} {screened : List ℕ} {first n : ℕ} (passed : Passed b screened first n) where
  -- Step by step.
  module _ (mem : ℕ → W) (s : Cpu) (l : List Pending) where
    stays : (i : ℕ) → CoveredAt passed mem s l i (mem i) → Inside b first n mem s i → Stays b first n mem s l i
    stays i c h =
        record {
          returns_home_lem = or_second (finds_last (state_at b mem s i) (pending_at b mem s l i)) _ h.no_return;
          no_write = h.no_write;
          keeps_pending = none_spared b screened (state_at b mem s i) (mem i) (pending_at b mem s l i) c.calls_pending (step_at b mem s i).accesses;
        }

    onward : (i : ℕ) → LeftAlone b first n mem s i → Onward passed mem s l i
    onward i h c =
        let left : CoveredAt passed mem s l (suc i) (step_at b mem s i).memory = leaves_covered passed mem s l i c (stays i c h.inside) in
        host_covered left h.host (none_same b screened (state_at b mem s (suc i)) (step_at b mem s i).memory (pending_at b mem s l (suc i)) left.calls_pending (step_at b mem s i).memory (mem (suc i))) h.whole

    covered : Covered b screened first n s (mem 0) l → (k : ℕ) → ((i : ℕ) → i < k → LeftAlone b first n mem s i) → CoveredAt passed mem s l k (mem k)
    covered begun k alone = keeps_covered passed mem s l begun k (λ i below. onward i (alone i below))

    pub goes_on : Covered b screened first n s (mem 0) l → (k : ℕ) → ((i : ℕ) → i < k → LeftAlone b first n mem s i) → (i : ℕ) → i < k → GoesOn b first n mem s l i
    goes_on begun k alone i below =
        let h : LeftAlone b first n mem s i = alone i below in
        let after : CoveredAt passed mem s l (suc i) (mem (suc i)) = covered begun (suc i) (λ j earlier. alone j (omega arith)) in
        record {
          stays = stays i (covered begun i (λ j earlier. alone j (omega arith))) h.inside;
          host = h.host;
          host_pending = none_same b screened (state_at b mem s (suc i)) (mem (suc i)) (pending_at b mem s l (suc i)) after.calls_pending (step_at b mem s i).memory (mem (suc i));
          whole = h.whole;
        }

  -- Within a run.
  pub stays_within : {s : Cpu} {m : W} {l : List Pending} → Covered b screened first n s m l → (i : ℕ) → ((j : ℕ) → j ≤ i → Inside b first n (memory_at b s m) s j) → Stays b first n (memory_at b s m) s l i
  unfolding memory_at
  stays_within {s} {m} {l} begun i inside =
      let mem : ℕ → W = memory_at b s m in
      stays mem s l i (keeps_covered passed mem s l begun i (λ j earlier. alone_onward passed s m l j (λ c. stays mem s l j c (inside j (omega arith))))) (inside i (omega arith))

  -- Run after run.
  module _ (budget : ℕ → ℕ) (mem : ℕ → W) (s : Cpu) (l : List Pending) (begun : Covered b screened first n s (mem 0) l) where
    run_stays : (j : ℕ) → Covered b screened first n (run_state_at b budget mem s j) (mem j) (run_pending_at b budget mem s l j) → RunLeftAlone b first n budget mem s j → RunStaysToTheEnd b first n budget mem s l j
    run_stays j c h i below = stays_within c i (λ e earlier. h.inside e (omega arith))

    runs_covered_alone : (k : ℕ) → ((j : ℕ) → j < k → RunLeftAlone b first n budget mem s j) → Covered b screened first n (run_state_at b budget mem s k) (mem k) (run_pending_at b budget mem s l k)
    unfolding run_state_at run_pending_at
    runs_covered_alone zero alone = begun
    runs_covered_alone (suc k) alone =
        let h : RunLeftAlone b first n budget mem s k = alone k (omega arith) in
        let before : _ = runs_covered_alone k (λ j earlier. alone j (omega arith)) in
        let after : _ = run_covered passed before (budget k) (run_stays k before h) in
        host_covered after h.host (none_same b screened (run_state_at b budget mem s (suc k)) (run_at b budget mem s k).memory (run_pending_at b budget mem s l (suc k)) after.calls_pending (run_at b budget mem s k).memory (mem (suc k))) h.whole

    pub runs_go_on : (k : ℕ) → ((j : ℕ) → j < k → RunLeftAlone b first n budget mem s j) → (j : ℕ) → j < k → RunGoesOn b first n budget mem s l j
    runs_go_on k alone j below =
        let h : RunLeftAlone b first n budget mem s j = alone j below in
        let before : _ = runs_covered_alone j (λ i earlier. alone i (omega arith)) in
        let after : _ = runs_covered_alone (suc j) (λ i earlier. alone i (omega arith)) in
        record {
          stays = run_stays j before h;
          host = h.host;
          host_pending = none_same b screened (run_state_at b budget mem s (suc j)) (mem (suc j)) (run_pending_at b budget mem s l (suc j)) after.calls_pending (run_at b budget mem s j).memory (mem (suc j));
          whole = h.whole;
        }
