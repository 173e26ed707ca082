-- Each instruction that goes on to the next keeps to its columns, whatever the state and whatever memory answers.
use mathlib.Core.Path.{◌≡◌, refl, ap, ◌∙◌}
use mathlib.Core.List.{[]}
use Prim.Native.Nat.{ℕ, suc}
use lib.ListN.{length}
use Rattle.sm83.specs.declared.CpuRegisters.{CpuRegisters}
use Rattle.sm83.specs.declared.Cpu.{Cpu}
use Rattle.outcome.specs.declared.Outcome.TheVariants.{Normal}
use Rattle.definition.specs.Bus.{Access}
use Rattle.sm83.specs.State.{pair_hl, pc, flags}
use Rattle.opcodes.specs.Instruction.{Reg8, Reg16, rBC, rDE, rHL, rSP, Stacked, pBC, pDE, pHL, pAF, Pointer, [BC], [DE], [HL+], [HL-]}
use Rattle.opcodes.specs.Instruction.{Work, NOP, DI, LD-r8-r8, LD-r8-n8, LD-r16-n16, LD-[r16]-A, LD-A-[r16], LD-[n16]-A, LD-A-[n16], LDH-[n8]-A, LDH-A-[n8], LDH-[C]-A, LDH-A-[C], LD-[n16]-SP, LD-SP-HL, LD-HL-SP+e8, ADD-SP-e8, ALU-A-r8, ALU-A-n8, ACC, INC-r8, DEC-r8, INC-r16, DEC-r16, ADD-HL-r16, PUSH-r16, POP-r16, work_operands}
use Rattle.opcodes.specs.Instruction.{Prefixed, SHIFT-r8, BIT-u3-r8, RES-u3-r8, SET-u3-r8}
use Rattle.definition.specs.Execution.{get16, put16, put_stacked, moved, work, prefixed, executing}
use Rattle.definition.specs.Step.{ended}
use Rattle.definition.proofs.Ends.{Ends, at_hl, plus_hl, length_at_hl, ends_get, ends_put}
use Rattle.opcodes.proofs.FlagColumns.{pop_flags, work_flags, prefixed_flags}
use Rattle.opcodes.proofs.FlagLaws.{Obeys, same_obeys, become, alu_obeys, acc_obeys, shift_obeys, increment_obeys, decrement_obeys, bit_obeys, word_sum_obeys, offset_obeys, popped_obeys}
use Rattle.definition.proofs.Cycles.{work_cycles, prefixed_cycles}
use Rattle.definition.proofs.Columns.{Onward, onwards, keeps}

-- Writing a pair or moving a pointer leaves PC and F.

abbrev Same : CpuRegisters → CpuRegisters → Type 0
Same r q = (q.pc.0 ≡ r.pc.0) × (q.f ≡ r.f)

put16_same : (to : Reg16) (w : ℕ) (r : CpuRegisters) → Same r (put16 to w r)
unfolding put16
put16_same rBC w r = (refl, refl)
put16_same rDE w r = (refl, refl)
put16_same rHL w r = (refl, refl)
put16_same rSP w r = (refl, refl)

moved_same : (p : Pointer) (r : CpuRegisters) → Same r (moved p r)
unfolding moved
moved_same [BC] r = (refl, refl)
moved_same [DE] r = (refl, refl)
moved_same [HL+] r = (refl, refl)
moved_same [HL-] r = (refl, refl)

pop_columns : (to : Stacked) (w : ℕ) (r : CpuRegisters) → ((put_stacked to w r).pc.0 ≡ r.pc.0) × Obeys (pop_flags to) r.f (put_stacked to w r).f
unfolding put_stacked
pop_columns pBC w r = (refl, same_obeys _ _ refl)
pop_columns pDE w r = (refl, same_obeys _ _ refl)
pop_columns pHL w r = (refl, same_obeys _ _ refl)
pop_columns pAF w r = (refl, popped_obeys _ _)

-- [HL] read and then written
length_twice : (from to : Reg8) (x y : Access) → length (at_hl from x (at_hl to y [])) ≡ plus_hl from (plus_hl to 0)
length_twice from to x y = length_at_hl from x (at_hl to y []) ∙ ap (plus_hl from) (length_at_hl to y [])

pub work_columns : (w : Work) (s : Cpu) → Ends (Onward (work_cycles w) (work_operands w) (work_flags w) (pc s) (flags s)) (work w s (λ u t. ended Normal t))
unfolding executing
work_columns NOP s = keeps refl tt refl refl
work_columns DI s = keeps refl tt refl refl
work_columns (LD-r8-r8 to from) s = ends_get _ from s _ (λ v. ends_put _ to v s (λ t p f. keeps (length_twice from to _ _) tt p f))
work_columns (LD-r8-n8 to) s = λ v. ends_put _ to v _ (λ t p f. keeps (ap suc (length_at_hl to _ [])) (refl, tt) p f)
work_columns (LD-r16-n16 to) s = λ x y. keeps refl (refl, (refl, tt)) (put16_same to _ _).0 (put16_same to _ _).1
work_columns (LD-[r16]-A p) s = keeps refl tt (moved_same p _).0 (moved_same p _).1
work_columns (LD-A-[r16] p) s = λ v. keeps refl tt (moved_same p _).0 (moved_same p _).1
work_columns LD-[n16]-A s = λ x y. keeps refl (refl, (refl, tt)) refl refl
work_columns LD-A-[n16] s = λ x y v. keeps refl (refl, (refl, tt)) refl refl
work_columns LDH-[n8]-A s = λ x. keeps refl (refl, tt) refl refl
work_columns LDH-A-[n8] s = λ x v. keeps refl (refl, tt) refl refl
work_columns LDH-[C]-A s = keeps refl tt refl refl
work_columns LDH-A-[C] s = λ v. keeps refl tt refl refl
work_columns LD-[n16]-SP s = λ x y. keeps refl (refl, (refl, tt)) refl refl
work_columns LD-SP-HL s = keeps refl tt refl refl
work_columns LD-HL-SP+e8 s = λ e. onwards refl (refl, tt) refl (offset_obeys _ e _)
work_columns ADD-SP-e8 s = λ e. onwards refl (refl, tt) refl (offset_obeys _ e _)
work_columns (ALU-A-r8 op from) s = ends_get _ from s _ (λ x. onwards (length_at_hl from _ []) tt refl (alu_obeys op _ x _))
work_columns (ALU-A-n8 op) s = λ x. onwards refl (refl, tt) refl (alu_obeys op _ x _)
work_columns (ACC op) s = onwards refl tt refl (acc_obeys op _ _)
work_columns (INC-r8 to) s = ends_get _ to s _ (λ x. ends_put _ to _ _ (λ t p f. onwards (length_twice to to _ _) tt p (become f (increment_obeys x _))))
work_columns (DEC-r8 to) s = ends_get _ to s _ (λ x. ends_put _ to _ _ (λ t p f. onwards (length_twice to to _ _) tt p (become f (decrement_obeys x _))))
work_columns (INC-r16 to) s = keeps refl tt (put16_same to _ _).0 (put16_same to _ _).1
work_columns (DEC-r16 to) s = keeps refl tt (put16_same to _ _).0 (put16_same to _ _).1
work_columns (ADD-HL-r16 from) s = onwards refl tt refl (word_sum_obeys (pair_hl s.registers) (get16 from s.registers) _)
work_columns (PUSH-r16 from) s = keeps refl tt refl refl
work_columns (POP-r16 to) s = λ x y. onwards refl tt (pop_columns to _ _).0 (pop_columns to _ _).1

pub prefixed_columns : (i : Prefixed) (s : Cpu) → Ends (Onward (prefixed_cycles i) 0 (prefixed_flags i) (pc s) (flags s)) (prefixed i s (λ u t. ended Normal t))
unfolding executing
prefixed_columns (SHIFT-r8 op to) s = ends_get _ to s _ (λ x. ends_put _ to _ _ (λ t p f. onwards (length_twice to to _ _) tt p (become f (shift_obeys op x _))))
prefixed_columns (BIT-u3-r8 n from) s = ends_get _ from s _ (λ x. onwards (length_at_hl from _ []) tt refl (bit_obeys n x _))
prefixed_columns (RES-u3-r8 n to) s = ends_get _ to s _ (λ x. ends_put _ to _ s (λ t p f. keeps (length_twice to to _ _) tt p f))
prefixed_columns (SET-u3-r8 n to) s = ends_get _ to s _ (λ x. ends_put _ to _ s (λ t p f. keeps (length_twice to to _ _) tt p f))
