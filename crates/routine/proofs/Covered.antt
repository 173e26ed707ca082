-- One step on any kind of memory that keeps the window: what demand 3 covers, what such a step leaves, and when the next step is covered too.
use mathlib.Core.Path.{◌≡◌, subst, subst⁻¹, ◌∙◌}
use mathlib.Core.Bool.{not}
use mathlib.Core.List.{List}
use Prim.Native.Nat.{ℕ, ◌+◌, ◌≤◌, ◌<◌}
use lib.Dec.{T}
use Rattle.sm83.specs.declared.Cpu.{Cpu}
use Rattle.definition.specs.Bus.{Bus, byte_at}
use Rattle.sm83.specs.State.{pc, flags}
use Rattle.opcodes.specs.Instruction.{decode}
use Rattle.definition.specs.Step.{step_tree, Admission, accepted, admission, admitted, step_on}
use Rattle.routine.specs.Flow.{instruction_at, returns}
use Rattle.routine.specs.Rules.{Start, Rules}
use Rattle.routine.specs.Trace.{Quiet, Fine, spares, Pending, pending_after, spares_pending, instruction_from, returns_home, SameWindow, SamePending}
use Rattle.routine.proofs.Onward.{QuietParts}
use Rattle.routine.proofs.Keeper.{Keeper, Came, shown}
use Rattle.routine.proofs.Inside.{StepEnds, step_ends, not_before, within}
use Rattle.routine.proofs.NoCalls.{MayBePending, still_none, host_leaves, no_return}

-- "Start a passed routine at any marked address, in a state that a step accepts, awake, with interrupts off and none being enabled": quiet, at a start, in a memory of 65,536 bytes that shows the screened window
pub record Covered {W : Type 0} (b : Bus W) (screened : List ℕ) (first n : ℕ) (s : Cpu) (m : W) (l : List Pending) : Type 0 where
  pub is_quiet_lem : Quiet s
  pub at_start : Start screened first (first + n) (pc s)
  pub shows : (a : ℕ) → first ≤ a → a < first + n → b.sees m a ≡ byte_at screened a
  pub whole : b.size m ≡ 65536
  pub calls_pending : MayBePending b screened s m l

-- A routine that keeps the screen's rules, on a kind of memory that keeps the routine.
pub record Passed {W : Type 0} (b : Bus W) (screened : List ℕ) (first n : ℕ) : Type 0 where
  pub rules : Rules screened first (first + n)
  pub low : first + n ≤ 65536
  pub keeper : Keeper b first n

as_calm : {s : Cpu} → Quiet s → QuietParts s
as_calm q = (q.running, q.no_hdma, q.not_halting, q.off, q.none_enabled, q.low_bits)

as_quiet : (s : Cpu) → QuietParts s → Quiet s
as_quiet s c = record { running = c.0; no_hdma = c.1; not_halting = c.2; off = c.3; none_enabled = c.4; low_bits = c.5 }

-- "A step accepts a state when neither of the two refuses it."
pub accepts : {W : Type 0} {b : Bus W} {screened : List ℕ} {first n : ℕ} {s : Cpu} {m : W} {l : List Pending} → Covered b screened first n s m l → admission b s m ≡ accepted
accepts c = simp (c.whole, c.is_quiet_lem.low_bits)

-- A host may change what it likes, but neither the window nor the two bytes of a pending call.
pub host_covered : {W : Type 0} {b : Bus W} {screened : List ℕ} {first n : ℕ} {s : Cpu} {m m' : W} {l : List Pending} → Covered b screened first n s m l → SameWindow b first n m m' → SamePending b l m m' → b.size m' ≡ 65536 → Covered b screened first n s m' l
host_covered {b = b} {screened = screened} {s = s} {m = m} {m' = m'} {l = l} c same pending whole =
    record {
      is_quiet_lem = c.is_quiet_lem;
      at_start = c.at_start;
      shows = λ a from to. same a from to ∙ c.shows a from to;
      whole = whole;
      calls_pending = host_leaves b screened s m m' l pending c.calls_pending;
    }

module _ {W : Type 0} {b : Bus W} {screened : List ℕ} {first n : ℕ} (passed : Passed b screened first n) {s : Cpu} {m : W} {l : List Pending} (c : Covered b screened first n s m l) where
  came : Came b first n (StepEnds screened first n s) m (step_on b s m)
  unfolding step_on
  came =
      subst⁻¹ (λ (a : Admission). Came b first n (StepEnds screened first n s) m (admitted a b s m)) (accepts c)
      (shown b first n passed.keeper (StepEnds screened first n s) (byte_at screened) (step_tree s) (step_ends screened first n passed.low passed.rules s (as_calm c.is_quiet_lem) c.at_start) m c.shows)

  pub step_fine : Fine (step_on b s m)
  step_fine = record { outcome = came.0.0; none_taken = came.1; leaves_quiet = as_quiet _ came.0.1 }

  -- the instruction is the screened one
  here : b.sees m (pc s) ≡ byte_at screened (pc s)
  here = c.shows (pc s) (not_before screened first n c.at_start) (within screened first n c.at_start)

  pending_after_lem : T (spares_pending l (step_on b s m).accesses) → MayBePending b screened (step_on b s m).value.cpu (step_on b s m).memory (pending_after (instruction_from b s m) s l)
  pending_after_lem spared =
      subst⁻¹ (λ (x : ℕ). MayBePending b screened (step_on b s m).value.cpu (step_on b s m).memory (pending_after (decode x) s l)) here
      (still_none b screened (instruction_at screened (pc s)) s (step_on b s m).value.cpu m (step_on b s m).memory l (passed.rules.allowed (pc s) c.at_start) c.calls_pending)

  -- "until a return is taken or a step writes into the routine"
  pub step_stays : T (returns_home b s m l) → T (spares first n (step_on b s m).accesses) → T (spares_pending l (step_on b s m).accesses) → Covered b screened first n (step_on b s m).value.cpu (step_on b s m).memory (pending_after (instruction_from b s m) s l)
  step_stays home no_write spared =
      record {
        is_quiet_lem = as_quiet _ came.0.1;
        at_start = came.0.2 (subst (λ (x : ℕ). T (not (returns (decode x) (flags s)))) here (no_return b screened s m l c.calls_pending home));
        shows = λ a from to. (came.2 no_write).0 a from to ∙ c.shows a from to;
        whole = (came.2 no_write).1 ∙ c.whole;
        calls_pending = pending_after_lem spared;
      }
