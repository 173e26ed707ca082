-- Lengths by where PC ends, where a taken JR lands, and what CALL and RST push: at every state, on every kind of memory.
use mathlib.Core.Path.{◌≡◌, refl, ap, ◌∙◌}
use mathlib.Core.Bool.{true}
use mathlib.Core.List.{List, [], ◌∷◌}
use Prim.Native.Nat.{ℕ, zero, suc, ◌+◌, ◌%◌}
use native.Mathlib.Omega.{arith}
use lib.ListN.{drop}
use Rattle.sm83.specs.declared.Cpu.{Cpu}
use Rattle.outcome.specs.declared.Outcome.{Outcome}
use Rattle.sm83.specs.Basics.{high_byte, low_byte, next, back, offset}
use Rattle.definition.specs.Bus.{Operand, Stack, Access, Write, Bus, run_on}
use Rattle.sm83.specs.State.{pc, sp, flags, set_pc}
use Rattle.opcodes.specs.Instruction.{Cond, JR-e8, CALL-n16, JR-cc-e8, CALL-cc-n16, RST-vec, Instruction, goes, operands}
use Rattle.definition.specs.Execution.{Does, executing}
use Rattle.definition.specs.Step.{Ended, ended}
use Rattle.opcodes.proofs.Choices.{if_so}
use Rattle.definition.proofs.Cycles.{jumps}
use Rattle.definition.proofs.Columns.{ahead}
use Rattle.definition.proofs.ExecuteColumns.{executed}

-- byte after byte is the sum modulo 65,536
pub ahead_is : (k a : ℕ) → ahead (suc k) a ≡ (a + suc k) % 65536
ahead_is zero a = refl
ahead_is (suc k) a = ahead_is k (next a) ∙ omega arith

pub ahead_next : (k a : ℕ) → ahead (suc k) a ≡ next (ahead k a)
ahead_next zero a = refl
ahead_next (suc k) a = ahead_next k (next a)

-- JR, and CALL and RST, with a condition or without one

pub data Relative : Instruction → Type 0 where
  JR : Relative (goes JR-e8)
  JR-if : (c : Cond) → Relative (goes (JR-cc-e8 c))

pub data Calling : Instruction → Type 0 where
  CALL : Calling (goes CALL-n16)
  CALL-if : (c : Cond) → Calling (goes (CALL-cc-n16 c))
  RST : (v : ℕ) → Calling (goes (RST-vec v))

-- the two writes of a push: the high byte first
abbrev pub pushed : ℕ → ℕ → List Access
pushed a w = Write Stack (back a) (high_byte w) ∷ Write Stack (back (back a)) (low_byte w) ∷ []

module _ {W : Type 0} (b : Bus W) where
  pub relative_lands : (at : ℕ) (i : Instruction) (s : Cpu) (m : W) → Relative i → jumps i (flags s) ≡ true → pc (executed b at i s m).value.cpu ≡ offset (ahead (operands i) (pc s)) (b.sees m (pc s))
  unfolding executing run_on
  relative_lands at i s m JR e = refl
  relative_lands at i s m (JR-if c) e = ap (λ (d : Does Ended Outcome). pc (run_on b (d (set_pc (next (pc s)) s) ended) (b.after_read Operand m (pc s))).value.cpu) (if_so _ _ e)

  pub calling_pushes : (at : ℕ) (i : Instruction) (s : Cpu) (m : W) → Calling i → jumps i (flags s) ≡ true → drop (suc (operands i)) (executed b at i s m).accesses ≡ pushed (sp s) (ahead (operands i) (pc s))
  unfolding executing run_on
  calling_pushes at i s m CALL e = refl
  calling_pushes at i s m (CALL-if c) e =
      let n : W = b.after_read Operand m (pc s) in
      ap (λ (d : Does Ended Outcome). drop 1 (run_on b (d (set_pc (next (next (pc s))) s) ended) (b.after_read Operand n (next (pc s)))).accesses) (if_so _ _ e)
  calling_pushes at i s m (RST v) e = refl
