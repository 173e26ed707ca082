-- An r8 operand: 001 reads and writes it as the definition does, if what is read and written are bytes. One law for reading and one for writing, whatever comes next.
use mathlib.Core.Path.{◌≡◌, refl, ap, ◌∙◌}
use Prim.Native.Nat.{ℕ, ◌<◌}
use Rattle.sm83.specs.declared.Cpu.{Cpu}
use Rattle.sm83.specs.Basics.{low_byte}
use Rattle.definition.specs.Bus.{Operand, Ask}
use Rattle.sm83.specs.State.{pair_hl, flags, set_f}
use Rattle.opcodes.specs.Arithmetic.{Result}
use Rattle.opcodes.specs.Instruction.{Reg8, rB, rC, rD, rE, rH, rL, [HL], rA}
use Rattle.definition.specs.Execution.{get8, put8, into8}
use Rattle.definition.specs.Step.{Ended}
use Rattle.instruction.specs.Row.{operand8}
use Rattle.bus.specs.World.{World, leads, after_read}
use Rattle.bus.proofs.Bytes.{shows_byte}
use Rattle.operands.specs.Operands.{read_operand, write_operand}
use Rattle.execution.specs.Mirror.{mirroring}
use Rattle.ranges.proofs.Ranges.{Bytes}
use Rattle.execution.proofs.Small.{ByteRegisters, kept}

-- equal trees lead to equal ends
pub on : (w : World) {p q : Ask Ended} → p ≡ q → leads p w ≡ leads q w
on w e = ap (λ (t : Ask Ended). leads t w) e

module _ (w : World) (bytes : Bytes w.bytes) (s : Cpu) (regs : ByteRegisters s.registers) (k j : ℕ → Cpu → Ask Ended) (same : (v : ℕ) (x : World) → v < 256 → leads (k v s) x ≡ leads (j v s) x) where
  pub reads : (r : Reg8) → leads (read_operand (operand8 r) s k) w ≡ leads (get8 r s j) w
  unfolding leads mirroring get8
  reads rB = same s.registers.b w regs.small_b
  reads rC = same s.registers.c w regs.small_c
  reads rD = same s.registers.d w regs.small_d
  reads rE = same s.registers.e w regs.small_e
  reads rH = same s.registers.h w regs.small_h
  reads rL = same s.registers.l w regs.small_l
  reads [HL] = same _ (after_read Operand w (pair_hl s.registers)) (shows_byte w (pair_hl s.registers) bytes)
  reads rA = same s.registers.a w regs.small_a

writes_low : (r : Reg8) (v : ℕ) (s : Cpu) (k : Unit {0} → Cpu → Ask Ended) → write_operand (operand8 r) v s k ≡ put8 r (low_byte v) s k
unfolding mirroring put8
writes_low rB v s k = refl
writes_low rC v s k = refl
writes_low rD v s k = refl
writes_low rE v s k = refl
writes_low rH v s k = refl
writes_low rL v s k = refl
writes_low [HL] v s k = refl
writes_low rA v s k = refl

pub writes : (r : Reg8) (v : ℕ) (s : Cpu) (k : Unit {0} → Cpu → Ask Ended) → v < 256 → write_operand (operand8 r) v s k ≡ put8 r v s k
writes r v s k h = writes_low r v s k ∙ ap (λ (x : ℕ). put8 r x s k) (kept h)

-- what an operation makes of a byte and F, into F and the operand
pub result_written : (op : ℕ → ℕ → Result) (r : Reg8) (v : ℕ) (s : Cpu) (k : Unit {0} → Cpu → Ask Ended) → v < 256 → (op v (flags s)).value < 256 →
    write_operand (operand8 r) (op (low_byte v) (flags s)).value (set_f (op (low_byte v) (flags s)).flags s) k ≡ into8 r (op v (flags s)) s k
result_written op r v s k small small_result =
    ap (λ (x : ℕ). write_operand (operand8 r) (op x (flags s)).value (set_f (op x (flags s)).flags s) k) (kept small) ∙ writes r (op v (flags s)).value (set_f (op v (flags s)).flags s) k small_result
