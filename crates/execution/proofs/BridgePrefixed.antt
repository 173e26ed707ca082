-- The instructions after CB: the row of 001 leads where the definition leads. A bit's number is below 8, as the decoder makes it.
use mathlib.Core.Path.{◌≡◌, ap, ◌∙◌}
use mathlib.Core.List.{[], ◌∷◌}
use Prim.Native.Nat.{ℕ, zero, suc, ◌/◌, ◌%◌, ◌<◌}
use native.Mathlib.Omega.{arith}
use lib.ListN.{get_or}
use Rattle.sm83.specs.declared.Cpu.{Cpu}
use Rattle.outcome.specs.declared.Outcome.{Outcome}
use Rattle.outcome.specs.declared.Outcome.TheVariants.{Normal}
use Rattle.sm83.specs.Basics.{cleared, raised}
use Rattle.definition.specs.Bus.{Ask}
use Rattle.sm83.specs.State.{flags, set_f}
use Rattle.opcodes.specs.Arithmetic.{shift_op, bit_test}
use Rattle.opcodes.specs.Instruction.{Reg8, Shift, RLC, RRC, RL, RR, SLA, SRA, SWAP, SRL, Prefixed, SHIFT-r8, BIT-u3-r8, RES-u3-r8, SET-u3-r8, reg8, shift, decode_cb}
use Rattle.definition.specs.Execution.{◌>>◌, into8, prefixed, normal, executing}
use Rattle.definition.specs.Step.{Ended}
use Rattle.instruction.specs.Row.{operand8, shift_code, prefixed_row}
use Rattle.bus.specs.World.{World, leads}
use Rattle.operands.specs.Operands.{write_operand}
use Rattle.execution.specs.Mirror.{compute, exec_row, mirroring}
use Rattle.ranges.proofs.Ranged.{shift_sound, cleared_byte, raised_byte}
use Rattle.ranges.proofs.Ranges.{Bytes}
use Rattle.execution.proofs.Small.{ByteRegisters, kept}
use Rattle.execution.proofs.Bridge8.{on, reads, writes, result_written}

abbrev pub OneOfEight : Prefixed → Type 0
OneOfEight (SHIFT-r8 o r) = Unit {0}
OneOfEight (BIT-u3-r8 n r) = n < 8
OneOfEight (RES-u3-r8 n r) = n < 8
OneOfEight (SET-u3-r8 n r) = n < 8

pub decoded_one_of_eight : (b : ℕ) → OneOfEight (decode_cb b)
unfolding decode_cb
decoded_one_of_eight b = by_quarter (b / 64) (shift (b / 8 % 8)) (reg8 (b % 8)) (b / 8 % 8) (omega arith)
  where
    by_quarter : (q : ℕ) (o : Shift) (r : Reg8) (n : ℕ) → n < 8 → OneOfEight (get_or (SHIFT-r8 o r ∷ BIT-u3-r8 n r ∷ RES-u3-r8 n r ∷ []) q (SET-u3-r8 n r))
    by_quarter zero o r n h = tt
    by_quarter (suc zero) o r n h = h
    by_quarter (suc (suc zero)) o r n h = h
    by_quarter (suc (suc (suc q))) o r n h = h

module _ (w : World) (bytes : Bytes w.bytes) (at : ℕ) (s : Cpu) (regs : ByteRegisters s.registers) (k : Outcome → Cpu → Ask Ended) where
  shift_rest : (o : Shift) (r : Reg8) (v : ℕ) → v < 256 → compute (shift_code o) at v s (λ w t. write_operand (operand8 r) w.value t (λ _ u. k w.outcome u)) ≡ into8 r (shift_op o v (flags s)) s (λ _ t. k Normal t)
  unfolding mirroring
  shift_rest RLC r v h = result_written (shift_op RLC) r v s _ h (shift_sound RLC v (flags s) h).0
  shift_rest RRC r v h = result_written (shift_op RRC) r v s _ h (shift_sound RRC v (flags s) h).0
  shift_rest RL r v h = result_written (shift_op RL) r v s _ h (shift_sound RL v (flags s) h).0
  shift_rest RR r v h = result_written (shift_op RR) r v s _ h (shift_sound RR v (flags s) h).0
  shift_rest SLA r v h = result_written (shift_op SLA) r v s _ h (shift_sound SLA v (flags s) h).0
  shift_rest SRA r v h = result_written (shift_op SRA) r v s _ h (shift_sound SRA v (flags s) h).0
  shift_rest SWAP r v h = result_written (shift_op SWAP) r v s _ h (shift_sound SWAP v (flags s) h).0
  shift_rest SRL r v h = result_written (shift_op SRL) r v s _ h (shift_sound SRL v (flags s) h).0

  pub prefixed_row_lem : (x : Prefixed) → OneOfEight x → leads (exec_row (prefixed_row x) at s k) w ≡ leads ((do prefixed x; normal) s k) w
  unfolding executing mirroring
  prefixed_row_lem (SHIFT-r8 o r) eighth = reads w bytes s regs _ _ (λ v x h. on x (shift_rest o r v h)) r
  prefixed_row_lem (BIT-u3-r8 n r) eighth = reads w bytes s regs _ _ (λ v x h. on x (ap (λ (x : ℕ). k Normal (set_f (bit_test n x (flags s)) s)) (kept h))) r
  prefixed_row_lem (RES-u3-r8 n r) eighth = reads w bytes s regs _ _ (λ v x h. on x (ap (λ (x : ℕ). write_operand (operand8 r) (cleared n x) s (λ _ t. k Normal t)) (kept h) ∙ writes r (cleared n v) s _ (cleared_byte n v h))) r
  prefixed_row_lem (SET-u3-r8 n r) eighth = reads w bytes s regs _ _ (λ v x h. on x (ap (λ (x : ℕ). write_operand (operand8 r) (raised n x) s (λ _ t. k Normal t)) (kept h) ∙ writes r (raised n v) s _ (raised_byte n v eighth h))) r
