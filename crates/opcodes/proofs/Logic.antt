-- AND, XOR, OR bit by bit, CP as SUB that keeps A, CPL; and Z of every result: by the library's laws of bits and one table of four cases.
use mathlib.Core.Path.{◌≡◌, refl, ap, ◌∙◌}
use mathlib.Core.Bool.{Bool, true, false}
use Prim.Native.Nat.{ℕ, ◌+◌, ◌-◌, ◌*◌, ◌/◌, ◌%◌, ◌^◌, ◌<◌}
use native.Mathlib.Omega.{arith}
use lib.Dec.{eqb, leb, ltb, T, eqb→eq}
use lib.Bits.{bit_and, bit_or, bit_xor, and_shr, or_shr, xor_shr, and_mod, or_mod, xor_mod}
use Rattle.sm83.specs.Basics.{bit_at}
use Rattle.opcodes.specs.Instruction.{SUB, AND, XOR, OR, CP, CPL}
use Rattle.sm83.specs.Flags.{flag_z, flag_c}
use Rattle.opcodes.specs.Arithmetic.{Result, is_zero, sum, difference, logical, shifted, alu_op, acc_op, increment, decrement}
use Rattle.opcodes.proofs.Flags.{read_z}
use Rattle.opcodes.proofs.Tested.{below, at}

-- an operation on bits agrees with a rule on single bits
one_bit : (op rule : ℕ → ℕ → ℕ) → T (below (λ p. below (λ q. eqb (op p q) (rule p q)) 2) 2) → (u v : ℕ) → op (u % 2) (v % 2) ≡ rule (u % 2) (v % 2)
one_bit op rule t u v = eqb→eq _ _ (at (λ q. eqb (op (u % 2) q) (rule (u % 2) q)) 2 (at (λ p. below (λ q. eqb (op p q) (rule p q)) 2) 2 t (u % 2) (omega arith)) (v % 2) (omega arith))

module _ (k a x f : ℕ) where
  -- 1 where both are
  pub AND-bit : bit_at k (alu_op AND a x f).value ≡ bit_at k a * bit_at k x
  AND-bit = ap (λ (v : ℕ). v % 2) (and_shr a x k) ∙ and_mod (a / 2 ^ k) (x / 2 ^ k) 1 ∙ one_bit bit_and (λ p q. p * q) tt (a / 2 ^ k) (x / 2 ^ k)

  -- 1 where they differ
  pub XOR-bit : bit_at k (alu_op XOR a x f).value ≡ (bit_at k a + bit_at k x) % 2
  XOR-bit = ap (λ (v : ℕ). v % 2) (xor_shr a x k) ∙ xor_mod (a / 2 ^ k) (x / 2 ^ k) 1 ∙ one_bit bit_xor (λ p q. (p + q) % 2) tt (a / 2 ^ k) (x / 2 ^ k)

  -- 1 where either is
  pub OR-bit : bit_at k (alu_op OR a x f).value ≡ bit_at k a + bit_at k x - bit_at k a * bit_at k x
  OR-bit = ap (λ (v : ℕ). v % 2) (or_shr a x k) ∙ or_mod (a / 2 ^ k) (x / 2 ^ k) 1 ∙ one_bit bit_or (λ p q. p + q - p * q) tt (a / 2 ^ k) (x / 2 ^ k)

  -- 1 where it is not, of a byte's eight bits
  pub CPL-sum : a < 256 → (acc_op CPL a f).value + a ≡ 255
  CPL-sum h = omega arith

-- "CP" is SUB that keeps A
pub CP-as-SUB : (a x f : ℕ) → ((alu_op CP a x f).value ≡ a) × ((alu_op CP a x f).flags ≡ (alu_op SUB a x f).flags)
CP-as-SUB a x f = (refl, refl)

-- Z says whether the byte is 0: of each way in which a result is made
abbrev ZeroFlag : Result → Type 0
ZeroFlag r = flag_z r.flags ≡ is_zero r.value

pub sum_z : (a x i : ℕ) → ZeroFlag (sum a x i)
sum_z a x i = read_z (is_zero (sum a x i).value) false (leb 16 (a % 16 + x % 16 + i)) (leb 256 (a + x + i))

pub difference_z : (a x i : ℕ) → ZeroFlag (difference a x i)
difference_z a x i = read_z (is_zero (difference a x i).value) true (ltb (a % 16) (x % 16 + i)) (ltb a (x + i))

pub logical_z : (v : ℕ) (h : Bool) → ZeroFlag (logical v h)
logical_z v h = read_z (is_zero v) false h false

pub shifted_z : (v out : ℕ) → ZeroFlag (shifted v out)
shifted_z v out = read_z (is_zero v) false false (eqb out 1)

pub increment_z : (x f : ℕ) → ZeroFlag (increment x f)
increment_z x f = read_z (is_zero ((x + 1) % 256)) false (eqb (x % 16) 15) (flag_c f)

pub decrement_z : (x f : ℕ) → ZeroFlag (decrement x f)
decrement_z x f = read_z (is_zero ((x + 255) % 256)) true (eqb (x % 16) 0) (flag_c f)
