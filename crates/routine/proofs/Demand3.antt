-- Demand 3: "until a return is taken or a step writes into the routine, every PC is a marked instruction start, and no step is refused, halts, stops or takes an interrupt".
-- For any number of steps, on any kind of memory that keeps the routine, with a host that may change all else between two steps.
use mathlib.Core.Path.{subst⁻¹}
use mathlib.Core.List.{List}
use Prim.Native.Nat.{ℕ, zero, suc, ◌<◌}
use native.Mathlib.Omega.{arith}
use Rattle.sm83.specs.declared.Cpu.{Cpu}
use Rattle.definition.specs.Bus.{Bus}
use Rattle.routine.specs.Trace.{Fine, Pending, state_at, step_at, pending_at, Stays, GoesOn, memory_at}
use Rattle.routine.proofs.Covered.{Covered, Passed, host_covered, step_fine, step_stays}
use Rattle.routine.proofs.Alone.{alone}

module _ {W : Type 0} {b : Bus W} {screened : List ℕ} {first n : ℕ} (passed : Passed b screened first n) where
  module _ (mem : ℕ → W) (s : Cpu) (l : List Pending) where
    -- the state before step k, on a memory
    abbrev pub CoveredAt : ℕ → W → Type 0
    CoveredAt k m = Covered b screened first n (state_at b mem s k) m (pending_at b mem s l k)

    -- a covered step that stays leaves a covered state
    pub leaves_covered : (i : ℕ) → CoveredAt i (mem i) → Stays b first n mem s l i → CoveredAt (suc i) (step_at b mem s i).memory
    unfolding state_at pending_at
    leaves_covered i c h = step_stays passed c h.returns_home_lem h.no_write h.keeps_pending

    -- and so on, where a covered step comes after a covered step
    abbrev pub Onward : ℕ → Type 0
    Onward i = CoveredAt i (mem i) → CoveredAt (suc i) (mem (suc i))

    pub keeps_covered : Covered b screened first n s (mem 0) l → (k : ℕ) → ((i : ℕ) → i < k → Onward i) → CoveredAt k (mem k)
    unfolding state_at pending_at
    keeps_covered begun zero onward = begun
    keeps_covered begun (suc k) onward = onward k (omega arith) (keeps_covered begun k (λ i below. onward i (omega arith)))

    -- "The state before such a step is still covered": and the step is fine, whatever it does
    and_fine : (k : ℕ) → CoveredAt k (mem k) → CoveredAt k (mem k) × Fine (step_at b mem s k)
    and_fine k c = (c, step_fine passed c)

    -- with a host
    pub demand3 : Covered b screened first n s (mem 0) l → (k : ℕ) → ((i : ℕ) → i < k → GoesOn b first n mem s l i) → CoveredAt k (mem k) × Fine (step_at b mem s k)
    demand3 begun k goes = and_fine k (keeps_covered begun k (λ i below. onward i (goes i below)))
      where
        onward : (i : ℕ) → GoesOn b first n mem s l i → Onward i
        onward i g c = host_covered (leaves_covered i c g.stays) g.host g.host_pending g.whole

  -- with none
  module _ (s : Cpu) (m : W) (l : List Pending) where
    -- the next memory is the one that the step leaves
    pub alone_onward : (i : ℕ) → (CoveredAt (memory_at b s m) s l i (memory_at b s m i) → Stays b first n (memory_at b s m) s l i) → Onward (memory_at b s m) s l i
    alone_onward i stays c = subst⁻¹ (CoveredAt (memory_at b s m) s l (suc i)) (alone b s m i) (leaves_covered (memory_at b s m) s l i c (stays c))

    pub demand3_alone : Covered b screened first n s m l → (k : ℕ) → ((i : ℕ) → i < k → Stays b first n (memory_at b s m) s l i) → CoveredAt (memory_at b s m) s l k (memory_at b s m k) × Fine (step_at b (memory_at b s m) s k)
    unfolding memory_at
    demand3_alone begun k stays =
        and_fine (memory_at b s m) s l k (keeps_covered (memory_at b s m) s l begun k (λ i below. alone_onward i (λ c. stays i below)))
