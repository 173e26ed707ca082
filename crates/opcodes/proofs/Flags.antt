-- The four flags are read back from F as they were put there, and F's low four bits are 0: one sum of four weighted bits, by arithmetic.
use mathlib.Core.Path.{◌≡◌, refl, ap, ◌∙◌}
use mathlib.Core.Bool.{Bool, true, false}
use Prim.Native.Nat.{ℕ, ◌/◌, ◌%◌, ◌≤◌}
use native.Mathlib.Omega.{arith}
use lib.Dec.{eqb}
use Rattle.sm83.specs.Basics.{bit}
use Rattle.sm83.specs.Flags.{flag_byte, flag_z, flag_n, flag_h, flag_c}

pub bit_small : (b : Bool) → bit b ≤ 1
bit_small true = omega arith
bit_small false = omega arith

pub is_one : (b : Bool) → eqb (bit b) 1 ≡ b
is_one true = refl
is_one false = refl

-- a bit of F that is the bit of a truth value
as_put : (x : ℕ) (b : Bool) → x ≡ bit b → eqb x 1 ≡ b
as_put x b e = ap (λ (y : ℕ). eqb y 1) e ∙ is_one b

module _ (z n h c : Bool) where
  pub read_z : flag_z (flag_byte z n h c) ≡ z
  read_z = as_put (flag_byte z n h c / 128 % 2) z (omega (arith, bit_small z, bit_small n, bit_small h, bit_small c))

  pub read_n : flag_n (flag_byte z n h c) ≡ n
  read_n = as_put (flag_byte z n h c / 64 % 2) n (omega (arith, bit_small z, bit_small n, bit_small h, bit_small c))

  pub read_h : flag_h (flag_byte z n h c) ≡ h
  read_h = as_put (flag_byte z n h c / 32 % 2) h (omega (arith, bit_small z, bit_small n, bit_small h, bit_small c))

  pub read_c : flag_c (flag_byte z n h c) ≡ c
  read_c = as_put (flag_byte z n h c / 16 % 2) c (omega (arith, bit_small z, bit_small n, bit_small h, bit_small c))

  pub low_bits_0 : flag_byte z n h c % 16 ≡ 0
  low_bits_0 = omega arith
