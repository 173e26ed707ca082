-- What a step writes, by its course: for every state and every memory.
use Rattle.std.proofs.Common.{if◌then◌else◌}
use mathlib.Core.Path.{◌≡◌, refl, sym, ap, subst, ◌∙◌}
use mathlib.Core.Bool.{Bool, true, false, not, ◌&&◌, ◌||◌}
use mathlib.Core.List.{List, []}
use Prim.Native.Nat.{ℕ, ◌%◌}
use lib.Dec.{eqb, T}
use lib.ListN.{length}
use Rattle.sm83.specs.declared.Cpu.{Cpu}
use Rattle.sm83.specs.declared.CpuRegisters.{CpuRegisters}
use Rattle.sm83.specs.declared.HaltMode.{HaltMode}
use Rattle.sm83.specs.declared.HaltMode.TheVariants.{NotHalting, HaltRunInterrupt, HaltNoRunInterrupt, HaltBug}
use Rattle.sm83.specs.Basics.{next}
use Rattle.sm83.specs.State.{pc, sp, flags, set_ime, set_latch, set_halt, set_pc}
use Rattle.outcome.specs.Interrupts.{is_pending}
use Rattle.opcodes.specs.Instruction.{decode}
use Rattle.opcodes.proofs.Choices.{by_cases}
use Rattle.definition.specs.Bus.{Fetch, Access, read, Ask, Performed, byte_at, pending, plain, run_on}
use Rattle.definition.specs.Execution.{execute}
use Rattle.definition.specs.Step.{is_asleep, is_bug, fetched, instruction, Ended, ended, step_on}
use Rattle.definition.proofs.Course as definition
use Rattle.definition.proofs.Course.{point1, point2, point3, point4, points5to7, was_awake, woke_dmg, woke_cgb, ime_clear, none_pending, course}
use Rattle.routine.specs.Trace.{takes_none}
use Rattle.watch.specs.declared.course.Course.{Course}
use Rattle.watch.specs.declared.course.Course.TheVariants.{Rests, Dispatches, Executes}
use Rattle.watch.specs.Places.{place_of, pushed_from, addresses_at}
use Rattle.watch.specs.Written.{written_by, course_of, instruction_writes, writes_by, interrupts_by}
use Rattle.watch.proofs.written.Executed.{Wrote, accesses_of, same, execute_writes}

-- Points 5 to 7. Neither the EI latch nor the end of a halt changes what the instruction writes.

abbrev after_test : Bool → Cpu → Cpu
after_test bug s = if bug then set_halt NotHalting s else set_pc (next (pc s)) s

same_registers : (bug : Bool) (s : Cpu) → (after_test bug (set_ime true (set_latch false s))).registers ≡ (after_test bug s).registers
same_registers true s = refl
same_registers false s = refl

abbrev fetching : Cpu → Ask Ended
fetching t = read Fetch (pc t) (λ v. execute (pc t) (decode v) (fetched t) ended)

fetch_writes : (latch : Bool) (s : Cpu) (m : List ℕ) → Wrote (instruction_writes s m) (accesses_of (fetching (if latch then set_ime true (set_latch false s) else s)) m)
unfolding instruction_writes run_on fetched
fetch_writes true s m =
    subst (λ (r : CpuRegisters). Wrote (addresses_at (place_of (decode (byte_at m (pc s)))) r m) (accesses_of (fetching (set_ime true (set_latch false s))) m)) (same_registers (is_bug s.halt) s)
    (same refl refl (execute_writes (pc s) (decode (byte_at m (pc s))) (fetched (set_ime true (set_latch false s))) m))
fetch_writes false s m = same refl refl (execute_writes (pc s) (decode (byte_at m (pc s))) (fetched s) m)

instruction_writes_lem : (s : Cpu) (m : List ℕ) → Wrote (instruction_writes s m) (accesses_of (instruction s ended) m)
unfolding instruction
instruction_writes_lem s m = fetch_writes s.latch s m

asleep_no_bug : (h : HaltMode) → T (is_asleep h) → is_bug h ≡ false
asleep_no_bug NotHalting t = absurd t
asleep_no_bug HaltRunInterrupt t = refl
asleep_no_bug HaltNoRunInterrupt t = refl
asleep_no_bug HaltBug t = absurd t

woken_writes : (s : Cpu) (m : List ℕ) → is_asleep s.halt ≡ true → Wrote (instruction_writes s m) (accesses_of (instruction (set_halt NotHalting s) ended) m)
unfolding instruction_writes fetched
woken_writes s m a =
    let awake : is_bug s.halt ≡ false = asleep_no_bug s.halt (subst T (sym a) tt) in
    subst (λ (bug : Bool). Wrote (addresses_at (place_of (decode (byte_at m (pc s)))) (after_test bug s).registers m) (accesses_of (instruction (set_halt NotHalting s) ended) m)) (sym awake)
    (instruction_writes_lem (set_halt NotHalting s) m)

-- The whole step.

pub record Came (s : Cpu) (m : List ℕ) (c : Course) (accesses : List Access) : Type 0 where
  pub writes : written_by accesses ≡ writes_by c s m
  pub takes : takes_none accesses ≡ not (interrupts_by c)

-- an accepted step, by the answers to its questions: stopped, HDMA, asleep, pending, IME
abbrev course_from : Bool → Bool → Bool → Bool → Bool → Course
course_from t h a p i = if true && true && not t && not h && (not a || p) then (if i && p then Dispatches else Executes) else Rests

module _ (s : Cpu) (m : List ℕ) where
  abbrev asked : Course
  asked = course_from s.stopped s.hdma (is_asleep s.halt) (is_pending (pending m)) s.ime

  answers : (t h a p i : Bool) → s.stopped ≡ t → s.hdma ≡ h → is_asleep s.halt ≡ a → is_pending (pending m) ≡ p → s.ime ≡ i → asked ≡ course_from t h a p i
  answers t h a p i e f g k l = simp (e, f, g, k, l)

  came_as : {c d : Course} {accesses : List Access} → c ≡ d → written_by accesses ≡ writes_by d s m → takes_none accesses ≡ not (interrupts_by d) → Came s m c accesses
  came_as {accesses} e w t = subst (λ (x : Course). Came s m x accesses) (sym e) (record { writes = w; takes = t })

  executed_as : {c : Course} {accesses : List Access} → c ≡ Executes → Wrote (instruction_writes s m) accesses → Came s m c accesses
  executed_as e w = came_as e w.there w.none_taken

  by_points : {r : Performed (List ℕ) Ended} → definition.Course plain s m r → Came s m asked r.accesses
  unfolding run_on
  by_points (point1 t) = came_as (answers _ _ _ _ _ t refl refl refl refl) refl refl
  by_points (point2 t h) = came_as (answers _ _ _ _ _ t h refl refl refl) refl refl
  by_points (point3 t h a p) = came_as (answers _ _ _ _ _ t h a p refl) refl refl
  by_points (point4 t h l u w (was_awake a) i p) = came_as (answers _ _ _ _ _ t h a p i) refl refl
  by_points (point4 t h l u w (woke_dmg a q d) i p) = came_as (answers _ _ _ _ _ t h a p i) refl refl
  by_points (point4 t h l u w (woke_cgb a q d) i p) = came_as (answers _ _ _ _ _ t h a p i) refl refl
  by_points (points5to7 t h l u w v (was_awake a) (ime_clear i)) = executed_as (answers _ _ _ _ _ t h a refl i) (instruction_writes_lem s m)
  by_points (points5to7 t h l u w v (was_awake a) (none_pending i p)) = executed_as (answers _ _ _ _ _ t h a p i) (instruction_writes_lem s m)
  by_points (points5to7 t h l u w v (woke_dmg a q d) (ime_clear i)) = executed_as (answers _ _ _ _ _ t h a q i) (same refl refl (woken_writes s m a))
  by_points (points5to7 t h l u w v (woke_dmg a q d) (none_pending i p)) = absurd (subst T (sym q ∙ p) tt)
  by_points (points5to7 t h l u w v (woke_cgb a q d) (ime_clear i)) = executed_as (answers _ _ _ _ _ t h a q i) (same refl refl (woken_writes s m a))
  by_points (points5to7 t h l u w v (woke_cgb a q d) (none_pending i p)) = absurd (subst T (sym q ∙ p) tt)

  accepted_step : eqb (length m) 65536 ≡ true → eqb (flags s % 16) 0 ≡ true → Came s m (course_of s m) (step_on plain s m).accesses
  unfolding step_on course_of
  accepted_step whole clear = rw (whole, clear) (by_points (course plain s m))

  wrong_length : eqb (length m) 65536 ≡ false → Came s m (course_of s m) (step_on plain s m).accesses
  unfolding step_on course_of
  wrong_length e = rw e (record { writes = refl; takes = refl })

  low_bits : eqb (length m) 65536 ≡ true → eqb (flags s % 16) 0 ≡ false → Came s m (course_of s m) (step_on plain s m).accesses
  unfolding step_on course_of
  low_bits whole e = rw (whole, e) (record { writes = refl; takes = refl })

  pub step_came : Came s m (course_of s m) (step_on plain s m).accesses
  step_came = by_cases (eqb (length m) 65536) (λ whole. by_cases (eqb (flags s % 16) 0) (accepted_step whole) (low_bits whole)) wrong_length

  -- by the course that the code found
  by_course : {c d : Course} → c ≡ course_of s m → c ≡ d → Came s m d (step_on plain s m).accesses
  by_course e f = subst (λ (x : Course). Came s m x (step_on plain s m).accesses) (sym e ∙ f) step_came

  pub rests : {c : Course} → c ≡ course_of s m → c ≡ Rests → [] ≡ written_by (step_on plain s m).accesses
  rests e f = sym (by_course e f).writes

  pub dispatches : {c : Course} → c ≡ course_of s m → c ≡ Dispatches → pushed_from (sp s) ≡ written_by (step_on plain s m).accesses
  dispatches e f = sym (by_course e f).writes

  pub executes : {c : Course} → c ≡ course_of s m → c ≡ Executes → instruction_writes s m ≡ written_by (step_on plain s m).accesses
  executes e f = sym (by_course e f).writes

  pub interrupted : not (takes_none (step_on plain s m).accesses) ≡ interrupts_by (course_of s m)
  interrupted = ap not step_came.takes ∙ twice (interrupts_by (course_of s m))
    where
      twice : (b : Bool) → not (not b) ≡ b
      twice true = refl
      twice false = refl
