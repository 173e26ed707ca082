-- Each jump keeps to its columns, taken or not, whatever the state and whatever memory answers.
use Rattle.std.proofs.Common.{if◌then◌else◌}
use mathlib.Core.Path.{◌≡◌, refl}
use mathlib.Core.Bool.{Bool, true, false}
use mathlib.Core.List.{List, ◌∷◌}
use Prim.Native.Nat.{ℕ}
use lib.Dec.{eqb}
use Rattle.sm83.specs.declared.Cpu.{Cpu}
use Rattle.outcome.specs.declared.Outcome.TheVariants.{Normal, InfiniteLoop}
use Rattle.sm83.specs.Basics.{next, word, offset}
use Rattle.definition.specs.Bus.{Operand, Access, Read, Idle}
use Rattle.sm83.specs.State.{pc, flags, pair_hl}
use Rattle.opcodes.specs.Arithmetic.{holds}
use Rattle.opcodes.specs.Instruction.{Jump, JP-n16, JP-HL, JR-e8, CALL-n16, RET, RETI, JP-cc-n16, JR-cc-e8, CALL-cc-n16, RET-cc, RST-vec, jump_operands}
use Rattle.definition.specs.Execution.{jump, executing}
use Rattle.definition.specs.Step.{Ended, ended}
use Rattle.opcodes.specs.Published.{keep}
use Rattle.definition.proofs.Ends.{Ends, ends_if}
use Rattle.definition.proofs.Cycles.{jump_cycles, takes}
use Rattle.definition.proofs.Columns.{Columns, jumped}
use Rattle.definition.proofs.Refused.{is_refused}

-- a jump, taken or not, with some of its accesses before the rest
abbrev pub Jumping : Cpu → Jump → Bool → (List Access → List Access) → List Access → Ended → Type 0
Jumping s j t before l e = Columns (jump_cycles t j) (jump_operands j) t false keep (pc s) (flags s) (before l) e

no_refusal : (t : Bool) → is_refused (if t then InfiniteLoop else Normal) ≡ false
no_refusal true = refl
no_refusal false = refl

pub jump_columns : (at : ℕ) (j : Jump) (s : Cpu) → Ends (Columns (jump_cycles (takes j (flags s)) j) (jump_operands j) (takes j (flags s)) false keep (pc s) (flags s)) (jump at j s ended)
unfolding executing
jump_columns at JP-n16 s = λ x y. jumped refl (refl, (refl, tt)) (λ z. absurd z) refl (no_refusal (eqb (word y x) at))
jump_columns at JP-HL s = jumped refl tt (λ z. absurd z) refl (no_refusal (eqb (pair_hl s.registers) at))
jump_columns at JR-e8 s = λ x. jumped refl (refl, tt) (λ z. absurd z) refl (no_refusal (eqb (offset (next (pc s)) x) at))
jump_columns at CALL-n16 s = λ x y. jumped refl (refl, (refl, tt)) (λ z. absurd z) refl refl
jump_columns at RET s = λ x y. jumped refl tt (λ z. absurd z) refl refl
jump_columns at RETI s = λ x y. jumped refl tt (λ z. absurd z) refl refl
jump_columns at (JP-cc-n16 c) s = λ x y.
    ends_if (λ t. Jumping s (JP-cc-n16 c) t (λ l. Read Operand (pc s) ∷ Read Operand (next (pc s)) ∷ l)) (holds c (flags s)) _ _ _ ended
    (jumped refl (refl, (refl, tt)) (λ z. absurd z) refl refl)
    (jumped refl (refl, (refl, tt)) (λ z. refl) refl refl)
jump_columns at (JR-cc-e8 c) s = λ x.
    ends_if (λ t. Jumping s (JR-cc-e8 c) t (λ l. Read Operand (pc s) ∷ l)) (holds c (flags s)) _ _ _ ended
    (jumped refl (refl, tt) (λ z. absurd z) refl refl)
    (jumped refl (refl, tt) (λ z. refl) refl refl)
jump_columns at (CALL-cc-n16 c) s = λ x y.
    ends_if (λ t. Jumping s (CALL-cc-n16 c) t (λ l. Read Operand (pc s) ∷ Read Operand (next (pc s)) ∷ l)) (holds c (flags s)) _ _ _ ended
    (jumped refl (refl, (refl, tt)) (λ z. absurd z) refl refl)
    (jumped refl (refl, (refl, tt)) (λ z. refl) refl refl)
jump_columns at (RET-cc c) s =
    ends_if (λ t. Jumping s (RET-cc c) t (λ l. Idle ∷ l)) (holds c (flags s)) _ _ _ ended
    (λ x y. jumped refl tt (λ z. absurd z) refl refl)
    (jumped refl tt (λ z. refl) refl refl)
jump_columns at (RST-vec v) s = jumped refl tt (λ z. absurd z) refl refl
