-- Demand 3 for budgeted runs: if no step before a run's last takes a return or writes into the routine, each of its steps is fine, and its last outcome too; if its last does neither, then it ends covered.
-- And for runs one after the other: so does the next, if the host between the two spares the routine.
use Rattle.std.specs.Prelude.{Option}
use mathlib.Core.Path.{subst⁻¹}
use mathlib.Core.List.{List}
use Prim.Native.Nat.{ℕ, zero, suc, ◌<◌}
use native.Mathlib.Omega.{arith}
use lib.Dec.{T}
use Rattle.sm83.specs.declared.Cpu.{Cpu}
use Rattle.definition.specs.Bus.{Bus}
use Rattle.definition.specs.Run.{run_for}
use Rattle.routine.specs.Trace.{Fine, is_fine_last, Pending, state_at, step_at, pending_at, memory_at, StaysToTheLast, StaysToTheEnd, run_state_at, run_pending_at, RunGoesOn}
use Rattle.routine.proofs.Covered.{Covered, Passed, accepts, host_covered}
use Rattle.routine.proofs.Alone.{run_end, run_last}
use Rattle.routine.proofs.Demand3.{demand3_alone}
use Rattle.outcome.specs.declared.Outcome.{Outcome}

module _ {W : Type 0} {b : Bus W} {screened : List ℕ} {first n : ℕ} (passed : Passed b screened first n) where
  module _ {s : Cpu} {m : W} {l : List Pending} (begun : Covered b screened first n s m l) (budget : ℕ) where
    -- before step i
    abbrev CoveredAt : ℕ → Type 0
    CoveredAt i = Covered b screened first n (state_at b (memory_at b s m) s i) (memory_at b s m i) (pending_at b (memory_at b s m) s l i)

    pub run_each : StaysToTheLast b first n budget s m l → (i : ℕ) → i < (run_for b budget s m).steps → CoveredAt i × Fine (step_at b (memory_at b s m) s i)
    run_each stays i below = demand3_alone passed s m l begun i (λ j earlier. stays j (omega arith))

    pub run_fine : StaysToTheLast b first n budget s m l → T (is_fine_last (run_for b budget s m).last)
    run_fine stays = run_last b budget s m (accepts begun) (λ (o : Option Outcome). T (is_fine_last o)) tt (λ i below. (run_each stays i below).1.outcome)

    pub run_covered : StaysToTheEnd b first n budget s m l → Covered b screened first n (run_for b budget s m).cpu (run_for b budget s m).memory (pending_at b (memory_at b s m) s l (run_for b budget s m).steps)
    run_covered stays =
        let end : _ = run_end b budget s m (accepts begun) in
        let after : List Pending = pending_at b (memory_at b s m) s l (run_for b budget s m).steps in
        subst⁻¹ (λ (t : Cpu). Covered b screened first n t (run_for b budget s m).memory after) end.0
        (subst⁻¹ (λ (w : W). Covered b screened first n (state_at b (memory_at b s m) s (run_for b budget s m).steps) w after) end.1
        (demand3_alone passed s m l begun (run_for b budget s m).steps stays).0)

  -- run after run
  pub runs_covered : (budget : ℕ → ℕ) (mem : ℕ → W) (s : Cpu) (l : List Pending) → Covered b screened first n s (mem 0) l → (k : ℕ) → ((j : ℕ) → j < k → RunGoesOn b first n budget mem s l j) → Covered b screened first n (run_state_at b budget mem s k) (mem k) (run_pending_at b budget mem s l k)
  unfolding run_state_at run_pending_at
  runs_covered budget mem s l begun zero goes = begun
  runs_covered budget mem s l begun (suc k) goes =
      let g : RunGoesOn b first n budget mem s l k = goes k (omega arith) in
      let before : Covered b screened first n (run_state_at b budget mem s k) (mem k) (run_pending_at b budget mem s l k) = runs_covered budget mem s l begun k (λ j below. goes j (omega arith)) in
      host_covered (run_covered before (budget k) g.stays) g.host g.host_pending g.whole
