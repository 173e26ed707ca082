-- What each instruction that goes on to the next one leaves, whatever memory answers: a calm state whose PC is past its bytes.
use Rattle.std.specs.Prelude.{Option}
use mathlib.Core.Path.{◌≡◌, refl}
use mathlib.Core.Bool.{false}
use Prim.Native.Nat.{ℕ, ◌%◌}
use native.Mathlib.Omega.{arith}
use lib.Dec.{T}
use Rattle.sm83.specs.declared.Cpu.{Cpu}
use Rattle.sm83.specs.declared.HaltMode.TheVariants.{NotHalting}
use Rattle.outcome.specs.declared.Outcome.TheVariants.{Normal}
use Rattle.definition.specs.Bus.{Ask, leaf, read, write, idle, peek, write_and_take}
use Rattle.sm83.specs.State.{pc, sp, flags, set_pc, set_sp, set_f, on_registers}
use Rattle.opcodes.specs.Instruction.{Reg8, rB, rC, rD, rE, rH, rL, [HL], rA, Reg16, rBC, rDE, rHL, rSP, Stacked, pBC, pDE, pHL, pAF, Pointer, [BC], [DE], [HL+], [HL-]}
use Rattle.opcodes.specs.Instruction.{Work, NOP, DI, LD-r8-r8, LD-r8-n8, LD-r16-n16, LD-[r16]-A, LD-A-[r16], LD-[n16]-A, LD-A-[n16], LDH-[n8]-A, LDH-A-[n8], LDH-[C]-A, LDH-A-[C], LD-[n16]-SP, LD-SP-HL, LD-HL-SP+e8, ADD-SP-e8, ALU-A-r8, ALU-A-n8, ACC, INC-r8, DEC-r8, INC-r16, DEC-r16, ADD-HL-r16, PUSH-r16, POP-r16, work_operands}
use Rattle.opcodes.specs.Instruction.{Prefixed, SHIFT-r8, BIT-u3-r8, RES-u3-r8, SET-u3-r8}
use Rattle.opcodes.proofs.FlagLaws.{alu_obeys, acc_obeys, shift_obeys}
use Rattle.definition.specs.Execution.{get8, put8, put16, put_stacked, moved, work, prefixed, executing}
use Rattle.definition.specs.Step.{Ended, ended}
use Rattle.definition.proofs.Columns.{ahead}
use Rattle.routine.specs.Trace.{is_fine}
use Rattle.outcome.specs.declared.interrupt.InterruptType.{InterruptType}

abbrev pub anything : ℕ → ℕ → Type 0
anything a v = Unit {0}

-- The tree ends as Q says if each read before its first write answers as K says; and it takes no interrupt.
abbrev pub Ends : (ℕ → ℕ → Type 0) → (Ended → Type 0) → Ask Ended → Type 0
Ends K Q (leaf e) = Q e
Ends K Q (read k a f) = (v : ℕ) → K a v → Ends K Q (f v)
Ends K Q (write k a v p) = Ends anything Q p
Ends K Q (idle p) = Ends K Q p
Ends K Q (peek f) = (i : Option InterruptType) → Ends K Q (f i)
Ends K Q (write_and_take a v f) = ⊥

-- Quiet, as a product that a change of registers other than F leaves as it is
abbrev pub QuietParts : Cpu → Type 0
QuietParts s = (s.stopped ≡ false) × (s.hdma ≡ false) × (s.halt ≡ NotHalting) × (s.ime ≡ false) × (s.latch ≡ false) × (flags s % 16 ≡ 0)

-- the end of an instruction that leaves PC at p
abbrev pub LeftAt : ℕ → Ended → Type 0
LeftAt p e = T (is_fine e.outcome) × QuietParts e.cpu × (pc e.cpu ≡ p)

abbrev normally : Cpu → Ended
normally s = record { outcome = Normal; cpu = s }

abbrev pub done : Unit {0} → Cpu → Ask Ended
done u s = ended Normal s

-- F may change, if its low bits are 0.

with_flags : (s : Cpu) (f : ℕ) → QuietParts s → f % 16 ≡ 0 → QuietParts (set_f f s)
with_flags s f c low = (c.0, c.1, c.2, c.3, c.4, low)

module _ (K : ℕ → ℕ → Type 0) (Q : Ended → Type 0) where
  get8_ends : (from : Reg8) (s : Cpu) (k : ℕ → Cpu → Ask Ended) → ((v : ℕ) → Ends K Q (k v s)) → Ends K Q (get8 from s k)
  unfolding get8
  get8_ends rB s k h = h s.registers.b
  get8_ends rC s k h = h s.registers.c
  get8_ends rD s k h = h s.registers.d
  get8_ends rE s k h = h s.registers.e
  get8_ends rH s k h = h s.registers.h
  get8_ends rL s k h = h s.registers.l
  get8_ends [HL] s k h = λ v told. h v
  get8_ends rA s k h = h s.registers.a

module _ (K : ℕ → ℕ → Type 0) {p : ℕ} where
  put8_ends : (to : Reg8) (v : ℕ) (s : Cpu) → LeftAt p (normally s) → Ends K (LeftAt p) (put8 to v s done)
  unfolding put8
  put8_ends rB v s h = h
  put8_ends rC v s h = h
  put8_ends rD v s h = h
  put8_ends rE v s h = h
  put8_ends rH v s h = h
  put8_ends rL v s h = h
  put8_ends [HL] v s h = h
  put8_ends rA v s h = h

  pub prefixed_ends : (i : Prefixed) (s : Cpu) → QuietParts s → pc s ≡ p → Ends K (LeftAt p) (prefixed i s done)
  unfolding prefixed
  prefixed_ends (SHIFT-r8 op to) s c e = get8_ends K _ to s _ (λ x. put8_ends to _ _ (tt, with_flags s _ c ((shift_obeys op x (flags s)).low_bits c.5), e))
  prefixed_ends (BIT-u3-r8 n from) s c e = get8_ends K _ from s _ (λ x. (tt, with_flags s _ c (omega arith), e))
  prefixed_ends (RES-u3-r8 n to) s c e = get8_ends K _ to s _ (λ x. put8_ends to _ _ (tt, c, e))
  prefixed_ends (SET-u3-r8 n to) s c e = get8_ends K _ to s _ (λ x. put8_ends to _ _ (tt, c, e))

module _ {p : ℕ} where
  put16_left : (to : Reg16) (w : ℕ) (s : Cpu) → LeftAt p (normally s) → LeftAt p (normally (on_registers (put16 to w) s))
  unfolding put16
  put16_left rBC w s h = h
  put16_left rDE w s h = h
  put16_left rHL w s h = h
  put16_left rSP w s h = h

  -- "the low four bits of F are always 0"
  stacked_left : (to : Stacked) (w : ℕ) (s : Cpu) → LeftAt p (normally s) → LeftAt p (normally (on_registers (put_stacked to w) s))
  unfolding put_stacked
  stacked_left pBC w s h = h
  stacked_left pDE w s h = h
  stacked_left pHL w s h = h
  stacked_left pAF w s h = (tt, with_flags s _ h.1 (omega arith), h.2)

  moved_left : (by : Pointer) (s : Cpu) → LeftAt p (normally s) → LeftAt p (normally (on_registers (moved by) s))
  unfolding moved
  moved_left [BC] s h = h
  moved_left [DE] s h = h
  moved_left [HL+] s h = h
  moved_left [HL-] s h = h

pub work_ends : (K : ℕ → ℕ → Type 0) (w : Work) (s : Cpu) → QuietParts s → Ends K (LeftAt (ahead (work_operands w) (pc s))) (work w s done)
unfolding executing
work_ends K NOP s c = (tt, c, refl)
work_ends K DI s c = (tt, (c.0, c.1, c.2, refl, c.4, c.5), refl)
work_ends K (LD-r8-r8 to from) s c = get8_ends K _ from s _ (λ v. put8_ends K to v s (tt, c, refl))
work_ends K (LD-r8-n8 to) s c = λ v _. put8_ends K to v _ (tt, c, refl)
work_ends K (LD-r16-n16 to) s c = λ x _ y _. put16_left to _ (set_pc (ahead 2 (pc s)) s) (tt, c, refl)
work_ends K (LD-[r16]-A by) s c = moved_left by s (tt, c, refl)
work_ends K (LD-A-[r16] by) s c = λ v _. moved_left by s (tt, c, refl)
work_ends K LD-[n16]-A s c = λ x _ y _. (tt, c, refl)
work_ends K LD-A-[n16] s c = λ x _ y _ v _. (tt, c, refl)
work_ends K LDH-[n8]-A s c = λ x _. (tt, c, refl)
work_ends K LDH-A-[n8] s c = λ x _ v _. (tt, c, refl)
work_ends K LDH-[C]-A s c = (tt, c, refl)
work_ends K LDH-A-[C] s c = λ v _. (tt, c, refl)
work_ends K LD-[n16]-SP s c = λ x _ y _. (tt, c, refl)
work_ends K LD-SP-HL s c = (tt, c, refl)
work_ends K LD-HL-SP+e8 s c = λ e _. (tt, with_flags s _ c (omega arith), refl)
work_ends K ADD-SP-e8 s c = λ e _. (tt, with_flags s _ c (omega arith), refl)
work_ends K (ALU-A-r8 op from) s c = get8_ends K _ from s _ (λ x. (tt, with_flags s _ c ((alu_obeys op s.registers.a x (flags s)).low_bits c.5), refl))
work_ends K (ALU-A-n8 op) s c = λ x _. (tt, with_flags s _ c ((alu_obeys op s.registers.a x (flags s)).low_bits c.5), refl)
work_ends K (ACC op) s c = (tt, with_flags s _ c ((acc_obeys op s.registers.a (flags s)).low_bits c.5), refl)
work_ends K (INC-r8 to) s c = get8_ends K _ to s _ (λ x. put8_ends K to _ _ (tt, with_flags s _ c (omega arith), refl))
work_ends K (DEC-r8 to) s c = get8_ends K _ to s _ (λ x. put8_ends K to _ _ (tt, with_flags s _ c (omega arith), refl))
work_ends K (INC-r16 to) s c = put16_left to _ s (tt, c, refl)
work_ends K (DEC-r16 to) s c = put16_left to _ s (tt, c, refl)
work_ends K (ADD-HL-r16 from) s c = (tt, with_flags s _ c (omega arith), refl)
work_ends K (PUSH-r16 from) s c = (tt, c, refl)
work_ends K (POP-r16 to) s c = λ x _ y _. stacked_left to _ (set_sp (ahead 2 (sp s)) s) (tt, c, refl)
