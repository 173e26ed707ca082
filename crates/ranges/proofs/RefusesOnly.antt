-- A step refuses for the reasons of the table alone: number 1 only if the length is wrong, 2 only if a low bit of F is set, 3 only if the byte fetched is illegal.
-- By the course of the step: every other course ends otherwise, and every other instruction too.
use Rattle.std.specs.Prelude.{None, Option, Some}
use Rattle.std.proofs.Common.{if◌then◌else◌}
use mathlib.Core.Path.{◌≡◌, refl, ap, sym, subst, ◌∙◌}
use mathlib.Core.Logic.{◌≢◌}
use mathlib.Core.Bool.{Bool, true, false, not}
use mathlib.Core.List.{List}
use Prim.Native.Nat.{ℕ, ◌%◌}
use native.Mathlib.Omega.{arith}
use lib.Dec.{eqb, T}
use borrow.Author.Tests.{eqb-true, eqb-false}
use Rattle.sm83.specs.declared.Cpu.{Cpu}
use Rattle.outcome.specs.declared.Refusal.{Refusal}
use Rattle.outcome.specs.declared.Refusal.TheVariants.{MemoryLength, LowBitsOfF}
use Rattle.outcome.specs.declared.Outcome.{Outcome}
use Rattle.outcome.specs.declared.Outcome.TheVariants.{Normal, InfiniteLoop, Halting, RunningHDMA, Stopped, RunningInterrupt, Breakpoint, Refused}
use Rattle.sm83.specs.Basics.{high_byte, back}
use Rattle.definition.specs.Bus.{Access, Fetch, Stack, Bus, Performed, run_on, byte_at, plain}
use Rattle.sm83.specs.State.{pc, sp, flags}
use Rattle.opcodes.specs.Instruction.{Instruction, ILLEGAL, decode}
use Rattle.definition.specs.Execution.{execute}
use Rattle.definition.specs.Step.{dispatched_as, enabled, fetched, instruction, Ended, ended, Admission, accepted, refused_as, admitted, step_on}
use Rattle.outcome.specs.Numbers.{number_of}
use Rattle.definition.specs.Run.{run_for}
use Rattle.definition.proofs.Course.{Woke, Passed, Course, point1, point2, point3, point4, points5to7, course, woke_pc}
use Rattle.definition.proofs.Refused.{is_refused}
use Rattle.definition.proofs.NeverRefuses.{never_run, execute_never}
use Rattle.opcodes.proofs.Illegal.{is_illegal, illegal_is}
use Rattle.definition.proofs.Refusals.{is_accepted, pc_enabled, accepts}
use Rattle.definition.proofs.PlainCourse.{woke_same, passed_same}
use Rattle.definition.proofs.Runs.{LastSays, run_keeps}
use Rattle.ranges.proofs.Ranges.{Lawful, Sized, InRange, step_ranges, step_size}
use Rattle.outcome.specs.declared.interrupt.InterruptType.{InterruptType}

-- Why a step may answer a refusal, by its number.
pub data Why {W : Type 0} (b : Bus W) (s : Cpu) (m : W) : ℕ → Type 0 where
  wrong_length : b.size m ≢ 65536 → Why b s m 1
  low_bit_set : b.size m ≡ 65536 → flags s % 16 ≢ 0 → Why b s m 2
  illegal_opcode : b.size m ≡ 65536 → flags s % 16 ≡ 0 → s.stopped ≡ false → s.hdma ≡ false → {l : List Access} {t : Cpu} {w v : W} → Woke b s m l t w → Passed b t w v → decode (b.sees v (pc s)) ≡ ILLEGAL → Why b s m 3

-- the number of a refusal, or 0
abbrev refusal_number : Outcome → ℕ
refusal_number Normal = 0
refusal_number InfiniteLoop = 0
refusal_number Halting = 0
refusal_number RunningHDMA = 0
refusal_number Stopped = 0
refusal_number (RunningInterrupt i) = 0
refusal_number (Breakpoint r) = 0
refusal_number (Refused r) = number_of r

not_refused : {o : Outcome} {r : Refusal} → T (not (is_refused o)) → o ≡ Refused r → ⊥
not_refused h e = subst (λ (x : Outcome). T (not (is_refused x))) e h

interrupt_not_refused : (i : Option InterruptType) → T (not (is_refused (dispatched_as i)))
interrupt_not_refused None = tt
interrupt_not_refused (Some i) = tt

module _ {W : Type 0} (b : Bus W) where
  decoded : (u : Cpu) (v : W) (r : Refusal) (x : Bool) → is_illegal (decode (b.sees v (pc u))) ≡ x → (run_on b (execute (pc u) (decode (b.sees v (pc u))) (fetched u) ended) (b.after_read Fetch v (pc u))).value.outcome ≡ Refused r → (decode (b.sees v (pc u)) ≡ ILLEGAL) × (3 ≡ number_of r)
  unfolding execute run_on
  decoded u v r true x e =
      let i : decode (b.sees v (pc u)) ≡ ILLEGAL = illegal_is (decode (b.sees v (pc u))) x in
      (i, ap refusal_number (ap (λ (j : Instruction). (run_on b (execute (pc u) j (fetched u) ended) (b.after_read Fetch v (pc u))).value.outcome) (sym i) ∙ e))
  decoded u v r false x e =
      absurd (not_refused (never_run b (execute (pc u) (decode (b.sees v (pc u))) (fetched u) ended) (b.after_read Fetch v (pc u)) (execute_never (pc u) (decode (b.sees v (pc u))) (fetched u) (subst (λ (t : Bool). T (not t)) (sym x) tt))) e)

  instruction_refused : (t : Cpu) (v : W) (r : Refusal) → (run_on b (instruction t ended) v).value.outcome ≡ Refused r → (decode (b.sees v (pc t)) ≡ ILLEGAL) × (3 ≡ number_of r)
  unfolding instruction run_on
  instruction_refused t v r e =
      subst (λ (p : ℕ). (decode (b.sees v p) ≡ ILLEGAL) × (3 ≡ number_of r)) (pc_enabled t t.latch) (decoded (enabled t) v r (is_illegal (decode (b.sees v (pc (enabled t))))) refl e)

  by_course : (s : Cpu) (m : W) (x : Performed W Ended) (r : Refusal) → b.size m ≡ 65536 → flags s % 16 ≡ 0 → Course b s m x → x.value.outcome ≡ Refused r → Why b s m (number_of r)
  unfolding run_on
  by_course s m x r z f (point1 p) e = absurd (not_refused tt e)
  by_course s m x r z f (point2 p q) e = absurd (not_refused tt e)
  by_course s m x r z f (point3 p q a i) e = absurd (not_refused tt e)
  by_course s m x r z f (point4 p q l t w woke i j) e =
      absurd (not_refused (interrupt_not_refused (b.peeks (b.after_write Stack (b.after_peek w) (back (sp t)) (high_byte (pc t))))) e)
  by_course s m x r z f (points5to7 p q l t w v woke passed) e =
      let h : (decode (b.sees v (pc t)) ≡ ILLEGAL) × (3 ≡ number_of r) = instruction_refused t v r e in
      subst (Why b s m) h.1 (illegal_opcode z f p q woke passed (subst (λ (a : ℕ). decode (b.sees v a) ≡ ILLEGAL) (woke_pc b woke) h.0))

  by_flags : (s : Cpu) (m : W) (r : Refusal) (t : Bool) → b.size m ≡ 65536 → eqb (flags s % 16) 0 ≡ t → (admitted (if t then accepted else refused_as LowBitsOfF) b s m).value.outcome ≡ Refused r → Why b s m (number_of r)
  by_flags s m r true z f e = by_course s m _ r z (eqb-true (flags s % 16) 0 f) (course b s m) e
  by_flags s m r false z f e = subst (Why b s m) (ap refusal_number e) (low_bit_set z (eqb-false (flags s % 16) 0 f))

  by_length : (s : Cpu) (m : W) (r : Refusal) (t : Bool) → eqb (b.size m) 65536 ≡ t → (admitted (if t then (if eqb (flags s % 16) 0 then accepted else refused_as LowBitsOfF) else refused_as MemoryLength) b s m).value.outcome ≡ Refused r → Why b s m (number_of r)
  by_length s m r true z e = by_flags s m r (eqb (flags s % 16) 0) (eqb-true (b.size m) 65536 z) refl e
  by_length s m r false z e = subst (Why b s m) (ap refusal_number e) (wrong_length (eqb-false (b.size m) 65536 z))

  -- "a step that only refuses .. dies by .. refusal 3's exact list": a step refuses for these reasons alone, each with its own number
  pub refuses_only : (s : Cpu) (m : W) (r : Refusal) → (step_on b s m).value.outcome ≡ Refused r → Why b s m (number_of r)
  unfolding step_on
  refuses_only s m r e = by_length s m r (eqb (b.size m) 65536) refl e

-- On plain memory 3 is answered only if the byte at PC is illegal.
byte_illegal : (s : Cpu) (m : List ℕ) (n : ℕ) → n ≡ 3 → Why plain s m n → decode (byte_at m (pc s)) ≡ ILLEGAL
byte_illegal s m n e (wrong_length z) = absurd (omega arith)
byte_illegal s m n e (low_bit_set z f) = absurd (omega arith)
byte_illegal s m n e (illegal_opcode z f p q woke passed i) = subst (λ (w : List ℕ). decode (byte_at w (pc s)) ≡ ILLEGAL) (passed_same passed ∙ woke_same woke) i

pub refuses_only_plain : (s : Cpu) (m : List ℕ) (r : Refusal) → (step_on plain s m).value.outcome ≡ Refused r → number_of r ≡ 3 → decode (byte_at m (pc s)) ≡ ILLEGAL
refuses_only_plain s m r e n = byte_illegal s m (number_of r) n (refuses_only plain s m r e)

never_refused : (r : Refusal) → accepted ≡ refused_as r → ⊥
never_refused r e = subst (λ (v : Admission). T (is_accepted v)) e tt

-- A run of an accepted state in range, on a lawful memory, is refused with number 3 alone: no step of it meets 1 or 2.
module _ {W : Type 0} (b : Bus W) (Good : W → Type 0) (law : Lawful b Good) (sized : Sized b) where
  abbrev Fits : Cpu → W → Type 0
  Fits s m = InRange Good s m × (b.size m ≡ 65536)

  abbrev OnlyThree : Outcome → Type 0
  OnlyThree o = (r : Refusal) → o ≡ Refused r → number_of r ≡ 3

  three : (s : Cpu) (m : W) (n : ℕ) → Fits s m → Why b s m n → n ≡ 3
  three s m n h (wrong_length z) = absurd (z h.1)
  three s m n h (low_bit_set z f) = absurd (f h.0.0.low_bits)
  three s m n h (illegal_opcode z f p q woke passed e) = refl

  pub run_refuses_only : (budget : ℕ) (s : Cpu) (m : W) → InRange Good s m → b.size m ≡ 65536 → (r : Refusal) → (run_for b budget s m).last ≡ Some (Refused r) → number_of r ≡ 3
  run_refuses_only budget s m h z r e =
      subst (LastSays OnlyThree) e
      (run_keeps b Fits OnlyThree (λ t w g. (((step_ranges b Good law t w g.0).0, step_size b sized t w ∙ g.1), λ x p. three t w (number_of x) g (refuses_only b t w x p))) budget s m
      (λ x p. absurd (never_refused x (sym (accepts b s m z h.0.low_bits) ∙ p))) (h, z)).1
      r refl
