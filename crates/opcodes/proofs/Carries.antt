-- H and C are exactly what a sum or a difference carries over: each flag by an equation of numbers that no other value solves.
use mathlib.Core.Path.{◌≡◌, refl, sym, subst, ◌∙◌}
use mathlib.Core.Bool.{Bool, true, false, not}
use Prim.Native.Nat.{ℕ, ◌+◌, ◌-◌, ◌*◌, ◌/◌, ◌%◌, ◌≤◌, ◌<◌}
use native.Mathlib.Omega.{arith}
use lib.Dec.{leb, ltb, T, leb→le, nleb→lt, ltb→lt, nltb→le}
use Rattle.sm83.specs.Basics.{bit}
use Rattle.sm83.specs.Flags.{flag_byte, flag_h, flag_c}
use Rattle.opcodes.specs.Arithmetic.{Result, is_zero, sum, difference}
use Rattle.opcodes.proofs.Flags.{read_h, read_c}

-- One law over the width: v is what is left of t below n, and the bit says whether n was carried.
carries : (n t v : ℕ) → (n ≤ t → v + n ≡ t) → (t < n → v ≡ t) → v + n * bit (leb n t) ≡ t
carries n t v above below = by (leb n t) refl
  where
    by : (b : Bool) → leb n t ≡ b → v + n * bit b ≡ t
    by true e = let h : v + n ≡ t = above (leb→le n t (subst T (sym e) tt)) in omega arith
    by false e = let h : v ≡ t = below (nleb→lt n t (subst (λ (c : Bool). T (not c)) (sym e) tt)) in omega arith

-- The same for a borrow: v is a less t, and the bit says whether n was borrowed.
borrows : (n a t v : ℕ) → (a < t → a + n ≡ v + t) → (t ≤ a → a ≡ v + t) → a + n * bit (ltb a t) ≡ v + t
borrows n a t v under over = by (ltb a t) refl
  where
    by : (b : Bool) → ltb a t ≡ b → a + n * bit b ≡ v + t
    by true e = let h : a + n ≡ v + t = under (ltb→lt a t (subst T (sym e) tt)) in omega arith
    by false e = let h : a ≡ v + t = over (nltb→le a t (subst (λ (c : Bool). T (not c)) (sym e) tt)) in omega arith

-- at the widths that carry: a nibble, a byte, twelve bits and a word
pub nibble : (t : ℕ) → t < 32 → t % 16 + 16 * bit (leb 16 t) ≡ t
nibble t h = carries 16 t (t % 16) (λ k. omega arith) (λ k. omega arith)

pub byte : (t : ℕ) → t < 512 → t % 256 + 256 * bit (leb 256 t) ≡ t
byte t h = carries 256 t (t % 256) (λ k. omega arith) (λ k. omega arith)

pub twelve : (t : ℕ) → t < 8192 → t % 4096 + 4096 * bit (leb 4096 t) ≡ t
twelve t h = carries 4096 t (t % 4096) (λ k. omega arith) (λ k. omega arith)

pub whole : (t : ℕ) → t < 131072 → t % 65536 + 65536 * bit (leb 65536 t) ≡ t
whole t h = carries 65536 t (t % 65536) (λ k. omega arith) (λ k. omega arith)

-- the low part of a sum is that of the sum of the low parts
pub low_16 : (t : ℕ) → t % 256 % 16 ≡ t % 16
low_16 t = omega arith

add_16 : (a x i : ℕ) → (a + x + i) % 16 ≡ (a % 16 + x % 16 + i) % 16
add_16 a x i = omega arith

small_16 : (a x i : ℕ) → i < 2 → a % 16 + x % 16 + i < 32
small_16 a x i h = omega arith

-- An equation about a flag, from the same about the truth value that was put into F.
module _ (z n h c : Bool) (P : ℕ → Type 0) where
  pub by_c : P (bit c) → P (bit (flag_c (flag_byte z n h c)))
  by_c p = subst (λ (x : Bool). P (bit x)) (sym (read_c z n h c)) p

  pub by_h : P (bit h) → P (bit (flag_h (flag_byte z n h c)))
  by_h p = subst (λ (x : Bool). P (bit x)) (sym (read_h z n h c)) p

-- a + x + i: C is the ninth bit of the sum, H the fifth of the low halves'
module _ (a x i : ℕ) (byte-a : a < 256) (byte-x : x < 256) (bit-i : i < 2) where
  abbrev s : Result
  s = sum a x i

  abbrev low : ℕ
  low = a % 16 + x % 16 + i

  pub sum_c : s.value + 256 * bit (flag_c s.flags) ≡ a + x + i
  sum_c = by_c (is_zero s.value) false (leb 16 low) (leb 256 (a + x + i)) (λ k. s.value + 256 * k ≡ a + x + i) (byte (a + x + i) (omega arith))

  pub sum_h : s.value % 16 + 16 * bit (flag_h s.flags) ≡ low
  sum_h =
      by_h (is_zero s.value) false (leb 16 low) (leb 256 (a + x + i)) (λ k. s.value % 16 + 16 * k ≡ low)
      (subst (λ (v : ℕ). v + 16 * bit (leb 16 low) ≡ low) (sym (low_16 (a + x + i) ∙ add_16 a x i)) (nibble low (small_16 a x i bit-i)))

-- a - x - i: C is what the byte borrowed, H what the low half borrowed
taken_256 : (a t : ℕ) → a < 256 → t < 257 → a + 256 * bit (ltb a t) ≡ (256 + a - t) % 256 + t
taken_256 a t ha ht = borrows 256 a t ((256 + a - t) % 256) (λ k. omega arith) (λ k. omega arith)

taken_16 : (a t v : ℕ) → a < 16 → t < 17 → v ≡ (16 + a - t) % 16 → a + 16 * bit (ltb a t) ≡ v + t
taken_16 a t v ha ht e = borrows 16 a t v (λ k. omega arith) (λ k. omega arith)

-- with both numbers taken apart at the half byte: a is q and r, x is u and w
apart : (t q r u w i : ℕ) → r < 16 → w < 16 → i < 2 → t + (u * 16 + w + i) ≡ 256 + (q * 16 + r) → t % 16 ≡ (16 + r - (w + i)) % 16
apart t q r u w i hr hw hi e = omega arith

halves : (x : ℕ) → x ≡ x / 16 * 16 + x % 16
halves x = omega arith

low_difference : (a x i : ℕ) → x < 256 → i < 2 → (256 + a - (x + i)) % 256 % 16 ≡ (16 + a % 16 - (x % 16 + i)) % 16
low_difference a x i hx hi =
    let t : ℕ = 256 + a - (x + i) in
    let e : t + (x + i) ≡ 256 + a = omega arith in
    low_16 t ∙ apart t (a / 16) (a % 16) (x / 16) (x % 16) i (omega arith) (omega arith) hi (omega (arith, halves a, halves x))

module _ (a x i : ℕ) (byte-a : a < 256) (byte-x : x < 256) (bit-i : i < 2) where
  abbrev d : Result
  d = difference a x i

  pub difference_c : a + 256 * bit (flag_c d.flags) ≡ d.value + (x + i)
  difference_c = by_c (is_zero d.value) true (ltb (a % 16) (x % 16 + i)) (ltb a (x + i)) (λ k. a + 256 * k ≡ d.value + (x + i)) (taken_256 a (x + i) byte-a (omega arith))

  pub difference_h : a % 16 + 16 * bit (flag_h d.flags) ≡ d.value % 16 + (x % 16 + i)
  difference_h =
      by_h (is_zero d.value) true (ltb (a % 16) (x % 16 + i)) (ltb a (x + i)) (λ k. a % 16 + 16 * k ≡ d.value % 16 + (x % 16 + i))
      (taken_16 (a % 16) (x % 16 + i) (d.value % 16) (omega arith) (omega arith) (low_difference a x i byte-x bit-i))
