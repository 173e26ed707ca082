-- Rotations and shifts lose no bit: the bit that leaves is C, and the bit that enters is the one the reference names.
use mathlib.Core.Path.{◌≡◌, ap, ◌∙◌}
use mathlib.Core.Bool.{false}
use Prim.Native.Nat.{ℕ, ◌+◌, ◌*◌, ◌/◌, ◌%◌, ◌<◌}
use native.Mathlib.Omega.{arith}
use lib.Dec.{eqb, T, eqb→eq}
use Rattle.sm83.specs.Basics.{bit}
use Rattle.opcodes.specs.Instruction.{Shift, RLC, RRC, RL, RR, SLA, SRA, SWAP, SRL}
use Rattle.sm83.specs.Flags.{flag_c}
use Rattle.opcodes.specs.Arithmetic.{carry, is_zero, shifted, shift_op}
use Rattle.opcodes.proofs.Flags.{read_c}
use Rattle.opcodes.proofs.Tested.{below, at}

-- a bit as a number is C's bit
out_bit : (v x : ℕ) → x < 2 → bit (flag_c (shifted v x).flags) ≡ x
out_bit v x h = ap bit (read_c (is_zero v) false false (eqb x 1)) ∙ as_bit x h
  where
    tested : T (below (λ x. eqb (bit (eqb x 1)) x) 2)
    tested = tt

    as_bit : (x : ℕ) → x < 2 → bit (eqb x 1) ≡ x
    as_bit x h = eqb→eq (bit (eqb x 1)) x (at (λ x. eqb (bit (eqb x 1)) x) 2 tested x h)

-- to the left: C and the byte are twice the byte and the bit that enters
abbrev Left : Shift → ℕ → ℕ → ℕ → Type 0
Left op x f enters = (shift_op op x f).value + 256 * bit (flag_c (shift_op op x f).flags) ≡ x * 2 + enters

-- to the right: twice the byte and C are the byte, and the bit that enters above it
abbrev Right : Shift → ℕ → ℕ → ℕ → Type 0
Right op x f enters = (shift_op op x f).value * 2 + bit (flag_c (shift_op op x f).flags) ≡ x + 256 * enters

module _ (x f : ℕ) (byte-x : x < 256) where
  high_bit : x / 128 < 2
  high_bit = omega arith

  low_bit : x % 2 < 2
  low_bit = omega arith

  pub RLC-left : Left RLC x f (x / 128)
  RLC-left = omega (arith, out_bit (x * 2 % 256 + x / 128) (x / 128) high_bit)

  pub RL-left : Left RL x f (carry f)
  RL-left = omega (arith, out_bit (x * 2 % 256 + carry f) (x / 128) high_bit)

  pub SLA-left : Left SLA x f 0
  SLA-left = omega (arith, out_bit (x * 2 % 256) (x / 128) high_bit)

  pub RRC-right : Right RRC x f (x % 2)
  RRC-right = omega (arith, out_bit (x / 2 + x % 2 * 128) (x % 2) low_bit)

  pub RR-right : Right RR x f (carry f)
  RR-right = omega (arith, out_bit (x / 2 + carry f * 128) (x % 2) low_bit)

  pub SRA-right : Right SRA x f (x / 128)
  SRA-right = omega (arith, out_bit (x / 2 + x / 128 * 128) (x % 2) low_bit)

  pub SRL-right : Right SRL x f 0
  SRL-right = omega (arith, out_bit (x / 2) (x % 2) low_bit)

  -- the two halves change places, and C is cleared
  pub SWAP-halves : ((shift_op SWAP x f).value % 16 ≡ x / 16) × ((shift_op SWAP x f).value / 16 ≡ x % 16) × (bit (flag_c (shift_op SWAP x f).flags) ≡ 0)
  SWAP-halves = (omega arith, omega arith, out_bit (x / 16 + x % 16 * 16) 0 (omega arith))
