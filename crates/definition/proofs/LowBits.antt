-- "the low four bits of F are always 0": a step keeps them so, for every state and every kind of memory, and so does a run.
-- By the course of the step: an instruction by its flags column, every other course leaves F as it was.
use Rattle.std.proofs.Common.{if◌then◌else◌}
use mathlib.Core.Path.{◌≡◌}
use mathlib.Core.Bool.{Bool, true, false}
use mathlib.Core.List.{List}
use Prim.Native.Nat.{ℕ, ◌%◌}
use Rattle.sm83.specs.declared.Cpu.{Cpu}
use Rattle.sm83.specs.declared.HaltMode.TheVariants.{NotHalting}
use Rattle.sm83.specs.Basics.{next}
use Rattle.definition.specs.Bus.{Access, Fetch, Bus, Performed, run_on}
use Rattle.sm83.specs.State.{pc, flags, set_pc, set_ime, set_latch, set_halt}
use Rattle.opcodes.specs.Instruction.{decode}
use Rattle.definition.specs.Step.{is_bug, enabled, fetched, instruction, Ended, ended, Admission, accepted, refused_as, admission, admitted, step_on}
use Rattle.definition.specs.Run.{run_for}
use Rattle.definition.proofs.Runs.{run_keeps}
use Rattle.definition.proofs.Course.{Woke, was_awake, woke_dmg, woke_cgb, Course, point1, point2, point3, point4, points5to7, course}
use Rattle.definition.proofs.ExecuteColumns.{execute_columns}

abbrev pub Low : Cpu → Type 0
Low s = flags s % 16 ≡ 0

enabled_low : (s : Cpu) (t : Bool) → Low s → Low (if t then set_ime true (set_latch false s) else s)
enabled_low s true low = low
enabled_low s false low = low

fetched_low : (s : Cpu) (t : Bool) → Low s → Low (if t then set_halt NotHalting s else set_pc (next (pc s)) s)
fetched_low s true low = low
fetched_low s false low = low

module _ {W : Type 0} (b : Bus W) where
  instruction_low : (s : Cpu) (m : W) → Low s → Low (run_on b (instruction s ended) m).value.cpu
  unfolding instruction fetched run_on
  instruction_low s m low =
      let t : Cpu = enabled s in
      (execute_columns b (pc t) (decode (b.sees m (pc t))) (fetched t) (b.after_read Fetch m (pc t))).changes.low_bits (fetched_low t (is_bug t.halt) (enabled_low s s.latch low))

  woke_low : {s t : Cpu} {m w : W} {l : List Access} → Woke b s m l t w → Low s → Low t
  woke_low (was_awake a) low = low
  woke_low (woke_dmg a p d) low = low
  woke_low (woke_cgb a p d) low = low

  by_course : {s : Cpu} {m : W} {r : Performed W Ended} → Course b s m r → Low s → Low r.value.cpu
  unfolding run_on
  by_course (point1 p) low = low
  by_course (point2 p q) low = low
  by_course (point3 p q a i) low = low
  by_course (point4 p q l t w woke i j) low = woke_low woke low
  by_course (points5to7 p q l t w v woke passed) low = instruction_low t v (woke_low woke low)

  admitted_low : (v : Admission) (s : Cpu) (m : W) → Low s → Low (admitted v b s m).value.cpu
  admitted_low accepted s m low = by_course (course b s m) low
  admitted_low (refused_as r) s m low = low

  pub step_low : (s : Cpu) (m : W) → Low s → Low (step_on b s m).value.cpu
  unfolding step_on
  step_low s m low = admitted_low (admission b s m) s m low

  pub run_low : (budget : ℕ) (s : Cpu) (m : W) → Low s → Low (run_for b budget s m).cpu
  run_low budget s m low = (run_keeps b (λ t w. Low t) (λ o. Unit {0}) (λ t w h. (step_low t w h, tt)) budget s m (λ r e. tt) low).0
