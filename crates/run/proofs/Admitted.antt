-- "Step and run test 1, then 2": what the two tests come to; and a step is a run with a budget of one.
use Rattle.std.specs.Prelude.{None, Some}
use Rattle.std.proofs.Common.{if◌then◌else◌}
use mathlib.Core.Path.{◌≡◌, refl, ap, sym}
use mathlib.Core.Bool.{Bool, true, false}
use mathlib.Core.List.{List}
use Prim.Native.Nat.{ℕ, ◌%◌}
use native.Mathlib.Omega.{arith}
use lib.Dec.{eqb}
use lib.ListN.{length}
use Rattle.sm83.specs.declared.Cpu.{Cpu}
use Rattle.outcome.specs.declared.Refusal.TheVariants.{MemoryLength, LowBitsOfF}
use Rattle.definition.specs.Bus.{Bus, Performed, mcycles}
use Rattle.sm83.specs.State.{flags}
use Rattle.definition.specs.Step.{Ended, Admission, accepted, refused_as, admission, step_on}
use Rattle.definition.specs.Run.{RunAnswer, stops_run, then_rest, repeated, not_run, admitted_run, run_for}
use Rattle.run.proofs.Behind.{Behind}

module _ (b : Bus (List ℕ)) (h : Behind b) (budget : ℕ) (s : Cpu) (m : List ℕ) where
  admits : (v : Admission) → admission b s m ≡ v → admitted_run v b budget s m ≡ run_for b budget s m
  unfolding run_for
  admits v e = ap (λ (w : Admission). admitted_run w b budget s m) (sym e)

  pub refused_length : eqb (length m) 65536 ≡ false → not_run MemoryLength s m ≡ run_for b budget s m
  refused_length e = admits (refused_as MemoryLength) (simp (h.size m, e))

  pub refused_low_bits : eqb (length m) 65536 ≡ true → eqb (flags s % 16) 0 ≡ false → not_run LowBitsOfF s m ≡ run_for b budget s m
  refused_low_bits e f = admits (refused_as LowBitsOfF) (simp (h.size m, e, f))

  pub run_accepted : eqb (length m) 65536 ≡ true → eqb (flags s % 16) 0 ≡ true → repeated b None budget s m ≡ run_for b budget s m
  run_accepted e f = admits accepted (simp (h.size m, e, f))

-- A run of one step answers what the step answers.
module _ {W : Type 0} (b : Bus W) where
  pub record Once (r : RunAnswer W) (q : Performed W Ended) : Type 0 where
    pub last : r.last ≡ Some q.value.outcome
    pub cpu : r.cpu ≡ q.value.cpu
    pub memory : r.memory ≡ q.memory
    pub cycles : r.cycles ≡ mcycles q.accesses

  alone : Performed W Ended → RunAnswer W
  alone q = record { last = Some q.value.outcome; cpu = q.value.cpu; memory = q.memory; steps = 1; cycles = mcycles q.accesses }

  stopped_or_not : (t : Bool) (q : Performed W Ended) → Once (if t then alone q else then_rest (mcycles q.accesses) (repeated b (Some q.value.outcome) 0 q.value.cpu q.memory)) q
  unfolding repeated alone
  stopped_or_not true q = record { last = refl; cpu = refl; memory = refl; cycles = refl }
  stopped_or_not false q = record { last = refl; cpu = refl; memory = refl; cycles = omega arith }

  by_admission : (s : Cpu) (m : W) (v : Admission) → admission b s m ≡ v → Once (admitted_run v b 1 s m) (step_on b s m)
  unfolding step_on repeated alone
  by_admission s m accepted e = stopped_or_not (stops_run (step_on b s m).value.outcome) (step_on b s m)
  by_admission s m (refused_as r) e = rw e (record { last = refl; cpu = refl; memory = refl; cycles = refl })

  pub once : (s : Cpu) (m : W) → Once (run_for b 1 s m) (step_on b s m)
  unfolding run_for
  once s m = by_admission s m (admission b s m) refl
