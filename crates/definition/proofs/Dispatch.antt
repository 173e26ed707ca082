-- Point 4, the dispatch of an interrupt: on any memory what it asks and leaves, and on plain memory the whole step.
use Rattle.std.specs.Prelude.{None, Option, Some}
use Rattle.std.proofs.Common.{if◌then◌else◌}
use mathlib.Core.Path.{◌≡◌, refl, ap, ◌∙◌}
use mathlib.Core.Bool.{Bool, true, false}
use mathlib.Core.List.{List, [], ◌∷◌, ◌++◌}
use Prim.Native.Nat.{ℕ, ◌+◌, ◌%◌}
use native.Mathlib.Omega.{arith}
use lib.ListN.{set, length}
use Rattle.sm83.specs.declared.Cpu.{Cpu}
use Rattle.sm83.specs.declared.HaltMode.TheVariants.{NotHalting}
use Rattle.outcome.specs.declared.Outcome.TheVariants.{Normal, RunningInterrupt}
use Rattle.sm83.specs.Basics.{high_byte, low_byte, back}
use Rattle.definition.specs.Bus.{Access, Write, Idle, WriteAndTake, Stack, Bus, Performed, run_on, pending, taken, plain}
use Rattle.outcome.specs.declared.interrupt.InterruptType.{InterruptType}
use Rattle.outcome.specs.Interrupts.{is_pending}
use Rattle.sm83.specs.State.{pc, sp, flags, set_pc, set_sp, set_ime, set_halt}
use Rattle.definition.specs.Step.{is_asleep, vector, entry_of, dispatched_as, dispatch, Ended, ended, Admission, admitted, step_on}
use Rattle.definition.proofs.Compose.{after}
use Rattle.definition.proofs.Course.{ended_as, wakes, dispatches}
use Rattle.definition.proofs.PlainCourse.{idles, roused_from, woke_plain, same_ime}
use Rattle.definition.proofs.Refusals.{accepts}
use Rattle.definition.proofs.Interrupts.{none_taken}

-- "SP less 1, write PC's high byte, peek again and take .. SP less 1, write the old PC's low byte, three idle accesses"
abbrev pub five_accesses : Cpu → List Access
five_accesses s =
    WriteAndTake (back (sp s)) (high_byte (pc s)) ∷ Write Stack (back (back (sp s))) (low_byte (pc s)) ∷ Idle ∷ Idle ∷ Idle ∷ []

-- the state after interrupt i (or none) was dispatched: SP less 2, PC its vector, IME clear; all else as it was
abbrev pub dispatched : Option InterruptType → Cpu → Cpu
dispatched i s = set_ime false (set_pc (entry_of i) (set_sp (back (back (sp s))) s))

module _ {W : Type 0} (b : Bus W) where
  -- the interrupt is the one that is pending after the high byte is written; the low byte is written after the take
  pub dispatch_run : (s : Cpu) (m : W) → (let pushed : W = b.after_write Stack m (back (sp s)) (high_byte (pc s)) in let i : Option InterruptType = b.peeks pushed in run_on b (dispatch s ended) m ≡ ended_as (record { outcome = dispatched_as i; cpu = dispatched i s }) (b.after_idle (b.after_idle (b.after_idle (b.after_write Stack (b.after_take pushed) (back (back (sp s))) (low_byte (pc s)))))) (five_accesses s))
  unfolding run_on
  dispatch_run s m = refl

-- "SP less 1" twice
pub two_less : (a : ℕ) → back (back a) ≡ (a + 65534) % 65536
two_less a = omega arith

-- Plain memory.

-- memory with PC's high byte pushed
abbrev pub pushed_high : Cpu → List ℕ → List ℕ
pushed_high s m = set m (back (sp s)) (high_byte (pc s))

-- and with the interrupt taken from that, then PC's low byte pushed
abbrev pub pushed_both : Cpu → List ℕ → List ℕ
pushed_both s m = set (taken (pushed_high s m)) (back (back (sp s))) (low_byte (pc s))

-- a halt that ends changes neither PC nor SP
from_roused : (s : Cpu) (m : List ℕ) (l : List Access) (a : Bool) → (let t : Cpu = if a then set_halt NotHalting s else s in after l (run_on plain (dispatch t ended) m) ≡ ended_as (record { outcome = dispatched_as (pending (pushed_high s m)); cpu = dispatched (pending (pushed_high s m)) t }) (pushed_both s m) (l ++ five_accesses s))
unfolding run_on
from_roused s m l true = refl
from_roused s m l false = refl

module _ (s : Cpu) (m : List ℕ) (whole : length m ≡ 65536) (low_bits : flags s % 16 ≡ 0) (running : s.stopped ≡ false) (no_hdma : s.hdma ≡ false) (on : s.ime ≡ true) (waiting : InterruptType) (some : pending m ≡ Some waiting) where
  -- "IME set and an interrupt pending": the whole step, after point 3's idle accesses if it was halted
  pub dispatch_step : step_on plain s m ≡ record { value = record { outcome = dispatched_as (pending (pushed_high s m)); cpu = dispatched (pending (pushed_high s m)) (roused_from s) }; memory = pushed_both s m; accesses = idles s ++ five_accesses s }
  unfolding step_on
  dispatch_step =
      ap (λ (v : Admission). admitted v plain s m) (accepts plain s m whole low_bits)
      ∙ wakes plain s m running no_hdma (woke_plain s m (λ a. ap is_pending some))
      ∙ ap (after (idles s)) (dispatches plain (roused_from s) m (same_ime s (is_asleep s.halt) ∙ on) (ap is_pending some))
      ∙ from_roused s m (idles s) (is_asleep s.halt)

  -- "PC is its vector, the outcome RunningInterrupt with its number"
  pub dispatch_some : (i : InterruptType) → pending (pushed_high s m) ≡ Some i → ((step_on plain s m).value.outcome ≡ RunningInterrupt i) × (pc (step_on plain s m).value.cpu ≡ vector i)
  dispatch_some i e = (
    ap (λ (r : Performed (List ℕ) Ended). r.value.outcome) dispatch_step ∙ ap dispatched_as e,
    ap (λ (r : Performed (List ℕ) Ended). pc r.value.cpu) dispatch_step ∙ ap entry_of e,
  )

  -- "If none is left, PC is 0 and the outcome is Normal": and 0xFF0F is not cleared
  pub dispatch_none : pending (pushed_high s m) ≡ None → ((step_on plain s m).value.outcome ≡ Normal) × (pc (step_on plain s m).value.cpu ≡ 0) × ((step_on plain s m).memory ≡ set (pushed_high s m) (back (back (sp s))) (low_byte (pc s)))
  dispatch_none e = (
    ap (λ (r : Performed (List ℕ) Ended). r.value.outcome) dispatch_step ∙ ap dispatched_as e,
    ap (λ (r : Performed (List ℕ) Ended). pc r.value.cpu) dispatch_step ∙ ap entry_of e,
    ap (λ (r : Performed (List ℕ) Ended). r.memory) dispatch_step ∙ ap (λ (w : List ℕ). set w (back (back (sp s))) (low_byte (pc s))) (none_taken (pushed_high s m) e),
  )
