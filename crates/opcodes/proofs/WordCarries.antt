-- ADD HL and the signed sums on SP: H and C are what the named bits carry over, and the value is the sum, or the difference, modulo 65,536.
use Rattle.std.proofs.Common.{if◌then◌else◌}
use mathlib.Core.Path.{◌≡◌, refl, ap, sym, subst}
use mathlib.Core.Bool.{Bool, true, false, not}
use Prim.Native.Nat.{ℕ, ◌+◌, ◌-◌, ◌*◌, ◌%◌, ◌≤◌, ◌<◌}
use native.Mathlib.Omega.{arith}
use lib.Dec.{leb, ltb, T, ltb→lt, nltb→le}
use Rattle.sm83.specs.Basics.{bit, offset}
use Rattle.sm83.specs.Flags.{flag_z, flag_n, flag_h, flag_c}
use Rattle.opcodes.specs.Arithmetic.{word_sum_flags, offset_flags}
use Rattle.opcodes.proofs.Flags.{read_z, read_n}
use Rattle.opcodes.proofs.Carries.{nibble, byte, twelve, whole, by_c, by_h}

-- ADD HL,r16: C is the seventeenth bit of the sum, H the thirteenth of the low twelve bits'
module _ (x y f : ℕ) (word-x : x < 65536) (word-y : y < 65536) where
  abbrev low : ℕ
  low = x % 4096 + y % 4096

  pub word_c : (x + y) % 65536 + 65536 * bit (flag_c (word_sum_flags x y f)) ≡ x + y
  word_c = by_c (flag_z f) false (leb 4096 low) (leb 65536 (x + y)) (λ k. (x + y) % 65536 + 65536 * k ≡ x + y) (whole (x + y) (omega arith))

  pub word_h : low % 4096 + 4096 * bit (flag_h (word_sum_flags x y f)) ≡ low
  word_h = by_h (flag_z f) false (leb 4096 low) (leb 65536 (x + y)) (λ k. low % 4096 + 4096 * k ≡ low) (twelve low (omega arith))

  -- and Z is kept
  pub word_z : flag_z (word_sum_flags x y f) ≡ flag_z f
  word_z = read_z (flag_z f) false (leb 4096 low) (leb 65536 (x + y))

-- a signed byte: 0 to 127 is added, 128 to 255 takes away what is missing to 256
pub offset_up : (w e : ℕ) → e < 128 → offset w e ≡ (w + e) % 65536
offset_up w e h = by (ltb e 128) refl
  where
    by : (b : Bool) → ltb e 128 ≡ b → (w + (if b then e else e + 0xff00)) % 65536 ≡ (w + e) % 65536
    by true q = refl
    by false q = let k : 128 ≤ e = nltb→le e 128 (subst (λ (c : Bool). T (not c)) (sym q) tt) in absurd (omega arith)

pub offset_down : (w e : ℕ) → 128 ≤ e → e < 256 → offset w e ≡ (w + 65536 - (256 - e)) % 65536
offset_down w e h l = by (ltb e 128) refl
  where
    by : (b : Bool) → ltb e 128 ≡ b → (w + (if b then e else e + 0xff00)) % 65536 ≡ (w + 65536 - (256 - e)) % 65536
    by true q = let k : e < 128 = ltb→lt e 128 (subst T (sym q) tt) in absurd (omega arith)
    by false q = ap (λ (x : ℕ). x % 65536) (omega arith)

-- "ADD SP and LD HL,SP add a signed byte: H and C come from the unsigned low nibble and low byte, Z and N are cleared"
module _ (w e : ℕ) (byte-e : e < 256) where
  pub offset_c : (w % 256 + e) % 256 + 256 * bit (flag_c (offset_flags w e)) ≡ w % 256 + e
  offset_c = by_c false false (leb 16 (w % 16 + e % 16)) (leb 256 (w % 256 + e)) (λ k. (w % 256 + e) % 256 + 256 * k ≡ w % 256 + e) (byte (w % 256 + e) (omega arith))

  pub offset_h : (w % 16 + e % 16) % 16 + 16 * bit (flag_h (offset_flags w e)) ≡ w % 16 + e % 16
  offset_h = by_h false false (leb 16 (w % 16 + e % 16)) (leb 256 (w % 256 + e)) (λ k. (w % 16 + e % 16) % 16 + 16 * k ≡ w % 16 + e % 16) (nibble (w % 16 + e % 16) (omega arith))

  pub offset_z_n : (flag_z (offset_flags w e) ≡ false) × (flag_n (offset_flags w e) ≡ false)
  offset_z_n = (read_z false false (leb 16 (w % 16 + e % 16)) (leb 256 (w % 256 + e)), read_n false false (leb 16 (w % 16 + e % 16)) (leb 256 (w % 256 + e)))
