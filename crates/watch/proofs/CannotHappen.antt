-- What cannot happen: in a window that the screen passes, from a start as demand 3 wants it, a watch that has gone on so far, with no return taken, goes on, or ends by a write into the window. It never strays, and no step is refused, stops, halts or is interrupted.
use Rattle.std.proofs.Common.{Option, None, Ok}
use mathlib.Core.Path.{◌≡◌, refl, sym, ap, subst, subst⁻¹, ◌∙◌}
use mathlib.Core.Bool.{Bool, true, false, not}
use mathlib.Core.List.{List}
use Prim.Native.Nat.{ℕ, suc, ◌<◌}
use lib.Dec.{T}
use lib.Ieee.Bits.{is_true}
use lib.ListN.{length}
use Rattle.sm83.specs.declared.Cpu.{Cpu}
use Rattle.sm83.specs.State.{pc}
use Rattle.definition.specs.Bus.{plain}
use Rattle.definition.specs.Step.{step_on}
use Rattle.routine.specs.Screen.{is_marked, screen}
use Rattle.routine.specs.Trace.{spares, Quiet, takes_return, SameWindow, state_at, step_at}
use Rattle.routine.proofs.Before.{window}
use Rattle.routine.proofs.Marks.{marks_length}
use Rattle.routine.proofs.WholeScreen.{when_passed}
use Rattle.routine.proofs.NothingPending.{LeftAlone}
use Rattle.routine.proofs.PassedRoutine.{Marked, demand_3, left_alone}
use Rattle.opcodes.proofs.Choices.{if_so}
use Rattle.watch.specs.declared.reasons.Why.{Why}
use Rattle.watch.specs.Reasons.{why_of, WatchAnswer, watch_on}
use Rattle.watch.proofs.Reason.{GoesOn, StaysOrWrites, stays_spares, fine_stays}

-- at a marked start the reason is that of the step; and a watch that goes on was at one
module _ (s : Cpu) (m : List ℕ) (first : ℕ) (marks : List ℕ) where
  at_start : is_marked marks first (pc s) ≡ true → (watch_on s m first marks).why ≡ why_of first (length marks) (step_on plain s m)
  unfolding watch_on
  at_start e = ap (λ (a : WatchAnswer). a.why) (if_so _ _ e)

  went_on : (t : Bool) → is_marked marks first (pc s) ≡ t → (watch_on s m first marks).why ≡ None → why_of first (length marks) (step_on plain s m) ≡ None
  unfolding watch_on
  went_on true e h = sym (at_start e) ∙ h
  went_on false e h = absurd (subst⁻¹ GoesOn (rw e at h) tt)

-- a window of a memory, from first to last, both addresses in it; the marks as they were lent
module _ (m : List ℕ) (first last : ℕ) (lent : List ℕ) (passes : (screen m first last lent).verdict ≡ Ok tt) (address : last < 65536) where
  abbrev n : ℕ
  n = window first last

  abbrev pub marks : List ℕ
  marks = (screen m first last lent).marks

  as_long : length marks ≡ n
  as_long = ap length (when_passed m first last lent passes).2 ∙ marks_length m first n

  -- Any number of steps, where mem i is the memory before step i: between two of them a host changes what it likes outside the window.
  module _ (mem : ℕ → List ℕ) (whole : length (mem 0) ≡ 65536) (same : SameWindow plain first n m (mem 0)) (s : Cpu) (quiet : Quiet s) (marked : Marked m first last lent passes address (pc s)) where
    -- why the watch of step i ends, if it does
    abbrev pub why_at : ℕ → Option Why
    why_at i = (watch_on (state_at plain mem s i) (mem i) first marks).why

    -- it goes on, no return is taken, and a host spares the window before the next step
    abbrev pub WentOn : ℕ → Type 0
    WentOn i =
        (why_at i ≡ None)
        × T (not (takes_return plain (state_at plain mem s i) (mem i)))
        × SameWindow plain first n (step_at plain mem s i).memory (mem (suc i))
        × (length (mem (suc i)) ≡ 65536)

    alone : (i : ℕ) → WentOn i → LeftAlone plain first n mem s i
    alone i w =
        let stays = went_on (state_at plain mem s i) (mem i) first marks _ refl w.0 in
        record {
          inside = record { no_return = w.1; no_write = subst (λ (k : ℕ). T (spares first k (step_at plain mem s i).accesses)) as_long (stays_spares first (length marks) (step_at plain mem s i) stays) };
          host = w.2;
          whole = w.3;
        }

    pub cannot_happen : (k : ℕ) → ((i : ℕ) → i < k → WentOn i) → StaysOrWrites (why_at k)
    cannot_happen k went =
        let covered = demand_3 m first last lent passes address mem whole same s quiet marked k (left_alone m first last lent passes address mem whole same s quiet marked k (λ i below. alone i (went i below))) in
        subst⁻¹ StaysOrWrites (at_start (state_at plain mem s k) (mem k) first marks (is_true _ covered.0)) (fine_stays first (length marks) (step_at plain mem s k) covered.2)
