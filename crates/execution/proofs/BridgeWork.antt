-- What goes on to the next instruction: the row of 001 leads where the definition leads, one clause for each form.
use mathlib.Core.Path.{◌≡◌, refl, ap, ◌∙◌}
use Prim.Native.Nat.{ℕ, ◌<◌}
use native.Mathlib.Omega.{arith}
use Rattle.sm83.specs.declared.Cpu.{Cpu}
use Rattle.outcome.specs.declared.Outcome.{Outcome}
use Rattle.outcome.specs.declared.Outcome.TheVariants.{Normal}
use Rattle.sm83.specs.Basics.{low_byte, next}
use Rattle.definition.specs.Bus.{Operand, Ask}
use Rattle.sm83.specs.State.{pc, write_a, on_registers, set_f, set_pc}
use Rattle.opcodes.specs.Arithmetic.{Result, alu_op, difference, increment, decrement}
use Rattle.opcodes.specs.Instruction.{Reg16, rBC, rDE, rHL, rSP, pBC, pDE, pHL, pAF, [BC], [DE], [HL+], [HL-], Alu, ADD, ADC, SUB, SBC, AND, XOR, OR, CP, RLCA, RRCA, RLA, RRA, DAA, CPL, SCF, CCF, does}
use Rattle.opcodes.specs.Instruction.{Work, NOP, DI, LD-r8-r8, LD-r8-n8, LD-r16-n16, LD-[r16]-A, LD-A-[r16], LD-[n16]-A, LD-A-[n16], LDH-[n8]-A, LDH-A-[n8], LDH-[C]-A, LDH-A-[C], LD-[n16]-SP, LD-SP-HL, LD-HL-SP+e8, ADD-SP-e8, ALU-A-r8, ALU-A-n8, ACC, INC-r8, DEC-r8, INC-r16, DEC-r16, ADD-HL-r16, PUSH-r16, POP-r16}
use Rattle.definition.specs.Execution.{get16, put16, moved, into_a, execute, executing}
use Rattle.definition.specs.Step.{Ended}
use Rattle.instruction.specs.declared.OperandType.{OperandType}
use Rattle.instruction.specs.declared.Instruction.{Instruction}
use Rattle.instruction.specs.Row.{operand16, alu_row, work_row}
use Rattle.bus.specs.World.{World, leads, shown, after_read, after_idle}
use Rattle.bus.proofs.Bytes.{shows_byte, read_keeps}
use Rattle.operands.specs.Operands.{read_operand, write_operand}
use Rattle.execution.specs.Mirror.{compute, exec_row, mirroring}
use Rattle.ranges.proofs.Ranged.{alu_sound}
use Rattle.ranges.proofs.Ranges.{Bytes}
use Rattle.execution.proofs.Small.{ByteRegisters, kept, signed_low}
use Rattle.execution.proofs.Bridge8.{on, reads, writes, result_written}

-- A pair of registers: read and written as the definition does.

reads16 : (r : Reg16) (s : Cpu) (k : ℕ → Cpu → Ask Ended) → read_operand (operand16 r) s k ≡ k (get16 r s.registers) s
unfolding mirroring get16
reads16 rBC s k = refl
reads16 rDE s k = refl
reads16 rHL s k = refl
reads16 rSP s k = refl

writes16 : (r : Reg16) (w : ℕ) (s : Cpu) (k : Unit {0} → Cpu → Ask Ended) → write_operand (operand16 r) w s k ≡ k tt (on_registers (put16 r w) s)
unfolding mirroring put16
writes16 rBC w s k = refl
writes16 rDE w s k = refl
writes16 rHL w s k = refl
writes16 rSP w s k = refl

-- What follows the operand's value.
abbrev rest : Instruction → ℕ → ℕ → Cpu → (Outcome → Cpu → Ask Ended) → Ask Ended
rest i at v s k = compute i.opcode at v s (λ w t. write_operand i.dest w.value t (λ _ u. k w.outcome u))

-- a result into F and A, from the low bytes
into_a_lem : (o : Alu) (v : ℕ) (s : Cpu) (k : Outcome → Cpu → Ask Ended) → s.registers.a < 256 → v < 256 →
    k Normal (on_registers (write_a (low_byte (alu_op o s.registers.a (low_byte v) s.registers.f).value)) (set_f (alu_op o s.registers.a (low_byte v) s.registers.f).flags s)) ≡ into_a (alu_op o s.registers.a v s.registers.f) s (λ _ t. k Normal t)
into_a_lem o v s k small_a small-v =
    let op : ℕ → Result = λ y. alu_op o s.registers.a y s.registers.f in
    ap (λ (y : ℕ). k Normal (on_registers (write_a (low_byte (op y).value)) (set_f (op y).flags s))) (kept small-v)
    ∙ ap (λ (y : ℕ). k Normal (on_registers (write_a y) (set_f (op v).flags s))) (kept (alu_sound o s.registers.a v s.registers.f small_a small-v).0)

alu_rest : (o : Alu) (src : OperandType) (at v : ℕ) (s : Cpu) (k : Outcome → Cpu → Ask Ended) → s.registers.a < 256 → v < 256 → rest (alu_row o src) at v s k ≡ into_a (alu_op o s.registers.a v s.registers.f) s (λ _ t. k Normal t)
unfolding mirroring
alu_rest ADD src at v s k small_a small-v = into_a_lem ADD v s k small_a small-v
alu_rest ADC src at v s k small_a small-v = into_a_lem ADC v s k small_a small-v
alu_rest SUB src at v s k small_a small-v = into_a_lem SUB v s k small_a small-v
alu_rest SBC src at v s k small_a small-v = into_a_lem SBC v s k small_a small-v
alu_rest AND src at v s k small_a small-v = into_a_lem AND v s k small_a small-v
alu_rest XOR src at v s k small_a small-v = into_a_lem XOR v s k small_a small-v
alu_rest OR src at v s k small_a small-v = into_a_lem OR v s k small_a small-v
alu_rest CP src at v s k small_a small-v = ap (λ (y : ℕ). k Normal (set_f (difference s.registers.a y 0).flags s)) (kept small-v)

-- the operand comes from where the row says, whichever operation it is
alu_reads : (o : Alu) (src : OperandType) (at : ℕ) (s : Cpu) (k : Outcome → Cpu → Ask Ended) → exec_row (alu_row o src) at s k ≡ read_operand src s (λ v t. rest (alu_row o src) at v t k)
unfolding mirroring
alu_reads ADD src at s k = refl
alu_reads ADC src at s k = refl
alu_reads SUB src at s k = refl
alu_reads SBC src at s k = refl
alu_reads AND src at s k = refl
alu_reads XOR src at s k = refl
alu_reads OR src at s k = refl
alu_reads CP src at s k = refl

module _ (w : World) (bytes : Bytes w.bytes) (at : ℕ) (s : Cpu) (regs : ByteRegisters s.registers) (k : Outcome → Cpu → Ask Ended) where
  -- a byte of memory into A
  loaded : (v : World) → Bytes v.bytes → (a : ℕ) (t : Cpu) → leads (k Normal (on_registers (write_a (low_byte (shown v a))) t)) (after_read Operand v a) ≡ leads (k Normal (on_registers (write_a (shown v a)) t)) (after_read Operand v a)
  loaded v b a t = ap (λ (x : ℕ). leads (k Normal (on_registers (write_a x) t)) (after_read Operand v a)) (kept (shows_byte v a b))

  -- after one byte at PC, and after two
  abbrev once : World
  once = after_read Operand w (pc s)

  abbrev twice : World
  twice = after_read Operand once (next (pc s))

  first : shown w (pc s) < 256
  first = shows_byte w (pc s) bytes

  bytes1 : Bytes once.bytes
  bytes1 = read_keeps Operand w (pc s) bytes

  bytes2 : Bytes twice.bytes
  bytes2 = read_keeps Operand once (next (pc s)) bytes1

  pub work_row_lem : (i : Work) → leads (exec_row (work_row i) at s k) w ≡ leads (execute at (does i) s k) w
  unfolding executing mirroring leads
  work_row_lem NOP = refl
  work_row_lem DI = refl
  work_row_lem (LD-r8-r8 to from) = reads w bytes s regs _ _ (λ v x h. on x (writes to v s _ h)) from
  work_row_lem (LD-r8-n8 to) = on once (writes to _ _ _ first)
  work_row_lem (LD-r16-n16 to) = on twice (writes16 to _ _ _)
  work_row_lem (LD-[r16]-A [BC]) = rw (kept regs.small_a)
  work_row_lem (LD-[r16]-A [DE]) = rw (kept regs.small_a)
  work_row_lem (LD-[r16]-A [HL+]) = rw (kept regs.small_a)
  work_row_lem (LD-[r16]-A [HL-]) = rw (kept regs.small_a)
  work_row_lem (LD-A-[r16] [BC]) = loaded w bytes _ s
  work_row_lem (LD-A-[r16] [DE]) = loaded w bytes _ s
  work_row_lem (LD-A-[r16] [HL+]) = loaded w bytes _ (on_registers (moved [HL+]) s)
  work_row_lem (LD-A-[r16] [HL-]) = loaded w bytes _ (on_registers (moved [HL-]) s)
  work_row_lem LD-[n16]-A = rw (kept regs.small_a)
  work_row_lem LD-A-[n16] = loaded twice bytes2 _ (set_pc (next (next (pc s))) s)
  work_row_lem LDH-[n8]-A = rw (kept regs.small_a)
  work_row_lem LDH-A-[n8] = loaded once bytes1 _ (set_pc (next (pc s)) s)
  work_row_lem LDH-[C]-A = rw (kept regs.small_a)
  work_row_lem LDH-A-[C] = loaded w bytes _ s
  work_row_lem LD-[n16]-SP = refl
  work_row_lem LD-SP-HL = refl
  work_row_lem LD-HL-SP+e8 = rw (signed_low first, leads)
  work_row_lem ADD-SP-e8 = rw (signed_low first, leads)
  work_row_lem (ALU-A-r8 o from) = on w (alu_reads o _ at s k) ∙ reads w bytes s regs _ _ (λ v x h. on x (alu_rest o _ at v s k regs.small_a h)) from
  work_row_lem (ALU-A-n8 o) = on w (alu_reads o _ at s k) ∙ on once (alu_rest o _ at _ _ k regs.small_a first)
  work_row_lem (ACC RLCA) = refl
  work_row_lem (ACC RRCA) = refl
  work_row_lem (ACC RLA) = refl
  work_row_lem (ACC RRA) = refl
  work_row_lem (ACC DAA) = refl
  work_row_lem (ACC CPL) = refl
  work_row_lem (ACC SCF) = refl
  work_row_lem (ACC CCF) = refl
  work_row_lem (INC-r8 to) = reads w bytes s regs _ _ (λ v x h. on x (result_written increment to v s _ h (omega arith))) to
  work_row_lem (DEC-r8 to) = reads w bytes s regs _ _ (λ v x h. on x (result_written decrement to v s _ h (omega arith))) to
  work_row_lem (INC-r16 to) = on w (reads16 to s _) ∙ on (after_idle w) (writes16 to _ _ _)
  work_row_lem (DEC-r16 to) = on w (reads16 to s _) ∙ on (after_idle w) (writes16 to _ _ _)
  work_row_lem (ADD-HL-r16 from) = on w (reads16 from s _)
  work_row_lem (PUSH-r16 pBC) = refl
  work_row_lem (PUSH-r16 pDE) = refl
  work_row_lem (PUSH-r16 pHL) = refl
  work_row_lem (PUSH-r16 pAF) = refl
  work_row_lem (POP-r16 pBC) = refl
  work_row_lem (POP-r16 pDE) = refl
  work_row_lem (POP-r16 pHL) = refl
  work_row_lem (POP-r16 pAF) = refl
