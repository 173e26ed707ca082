-- INC and DEC, and BIT, RES and SET: what they do to a byte and its flags, each a small law; the bits by one computed test over every byte and place.
use mathlib.Core.Path.{◌≡◌, refl, sym, subst}
use mathlib.Core.Bool.{Bool, true, false, ◌&&◌}
use Prim.Native.Nat.{ℕ, suc, ◌+◌, ◌-◌, ◌*◌, ◌/◌, ◌%◌, ◌^◌, ◌<◌}
use native.Mathlib.Omega.{arith}
use lib.Dec.{eqb, T, eqb→eq}
use lib.Bits.{bit_and, bit_or}
use Rattle.sm83.specs.Basics.{bit, bit_at, cleared, raised}
use Rattle.sm83.specs.Flags.{flag_z, flag_h, flag_c}
use Rattle.opcodes.specs.Arithmetic.{is_zero, increment, decrement, bit_test}
use Rattle.opcodes.proofs.Flags.{read_z}
use Rattle.opcodes.proofs.Tested.{and_left, and_right, below, at, agree_at_both}
use Rattle.opcodes.proofs.Carries.{by_h}

-- a test over two numbers below their bounds
both_below : (test : ℕ → ℕ → Bool) (n k : ℕ) → T (below (λ i. below (test i) k) n) → (i j : ℕ) → i < n → j < k → T (test i j)
both_below test n k t i j hi hj = at (test i) k (at (λ i. below (test i) k) n t i hi) j hj

-- H of INC is the carry out of the low half, and H of DEC its borrow
up_tested : T (below (λ y. eqb ((y + 1) % 16 + 16 * bit (eqb y 15)) (y + 1)) 16)
up_tested = tt

down_tested : T (below (λ y. eqb (y + 16 * bit (eqb y 0)) ((y + 15) % 16 + 1)) 16)
down_tested = tt

low_up : (x : ℕ) → (x + 1) % 256 % 16 ≡ (x % 16 + 1) % 16
low_up x = omega arith

low_down : (x : ℕ) → (x + 255) % 256 % 16 ≡ (x % 16 + 15) % 16
low_down x = omega arith

small : (x : ℕ) → x % 16 < 16
small x = omega arith

module _ (x f : ℕ) where
  pub INC-H : (increment x f).value % 16 + 16 * bit (flag_h (increment x f).flags) ≡ x % 16 + 1
  INC-H =
      by_h (is_zero (increment x f).value) false (eqb (x % 16) 15) (flag_c f) (λ k. (increment x f).value % 16 + 16 * k ≡ x % 16 + 1)
      (subst (λ (v : ℕ). v + 16 * bit (eqb (x % 16) 15) ≡ x % 16 + 1) (sym (low_up x)) (eqb→eq _ _ (at (λ y. eqb ((y + 1) % 16 + 16 * bit (eqb y 15)) (y + 1)) 16 up_tested (x % 16) (small x))))

  pub DEC-H : x % 16 + 16 * bit (flag_h (decrement x f).flags) ≡ (decrement x f).value % 16 + 1
  DEC-H =
      by_h (is_zero (decrement x f).value) true (eqb (x % 16) 0) (flag_c f) (λ k. x % 16 + 16 * k ≡ (decrement x f).value % 16 + 1)
      (subst (λ (v : ℕ). x % 16 + 16 * bit (eqb (x % 16) 0) ≡ v + 1) (sym (low_down x)) (eqb→eq _ _ (at (λ y. eqb (y + 16 * bit (eqb y 0)) ((y + 15) % 16 + 1)) 16 down_tested (x % 16) (small x))))

  -- one more and one less, modulo 256
  pub INC-value : (increment x f).value ≡ (x + 1) % 256
  INC-value = refl

  pub DEC-value : x < 256 → ((decrement x f).value + 1) % 256 ≡ x
  DEC-value h = omega arith

-- BIT: Z is the bit's complement
pub BIT-Z : (n x f : ℕ) → flag_z (bit_test n x f) ≡ is_zero (bit_at n x)
BIT-Z n x f = read_z (is_zero (bit_at n x)) false true (flag_c f)

-- RES and SET: bit n is 0, or 1, and the bits below and above it are kept
abbrev OnlyBit : ℕ → ℕ → ℕ → ℕ → Type 0
OnlyBit n to x y = (y / 2 ^ n % 2 ≡ to) × (y % 2 ^ n ≡ x % 2 ^ n) × (y / 2 ^ suc n ≡ x / 2 ^ suc n)

abbrev only_bit : ℕ → ℕ → ℕ → ℕ → Bool
only_bit n to x y = eqb (y / 2 ^ n % 2) to && (eqb (y % 2 ^ n) (x % 2 ^ n) && eqb (y / 2 ^ suc n) (x / 2 ^ suc n))

as_facts : (n to x y : ℕ) → T (only_bit n to x y) → OnlyBit n to x y
as_facts n to x y t =
    let r : T (eqb (y % 2 ^ n) (x % 2 ^ n) && eqb (y / 2 ^ suc n) (x / 2 ^ suc n)) = and_right (eqb (y / 2 ^ n % 2) to) _ t in
    (eqb→eq _ _ (and_left (eqb (y / 2 ^ n % 2) to) _ t), eqb→eq _ _ (and_left (eqb (y % 2 ^ n) (x % 2 ^ n)) _ r), eqb→eq _ _ (and_right (eqb (y % 2 ^ n) (x % 2 ^ n)) _ r))

cleared_tested : T (below (λ n. below (λ x. only_bit n 0 x (cleared n x)) 256) 8)
cleared_tested = tt

raised_tested : T (below (λ n. below (λ x. only_bit n 1 x (raised n x)) 256) 8)
raised_tested = tt

pub RES-only : (n x : ℕ) → n < 8 → x < 256 → OnlyBit n 0 x (cleared n x)
RES-only n x hn hx = as_facts n 0 x (cleared n x) (both_below (λ n x. only_bit n 0 x (cleared n x)) 8 256 cleared_tested n x hn hx)

pub SET-only : (n x : ℕ) → n < 8 → x < 256 → OnlyBit n 1 x (raised n x)
SET-only n x hn hx = as_facts n 1 x (raised n x) (both_below (λ n x. only_bit n 1 x (raised n x)) 8 256 raised_tested n x hn hx)

-- and that is what a mask of one bit does to a byte
pub and_clears : (n x : ℕ) → n < 8 → x < 256 → bit_and x (2 ^ 8 - 1 - 1 * 2 ^ n % 2 ^ 8) ≡ cleared n x
and_clears = agree_at_both _ _ 8 256 refl

pub or_raises : (n x : ℕ) → n < 8 → x < 256 → bit_or x (1 * 2 ^ n % 2 ^ 8) ≡ raised n x
or_raises = agree_at_both _ _ 8 256 refl
