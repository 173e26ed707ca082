-- Single bits: of a number with one bit cleared, where that bit is 0 and every other as it was, and of AND. By halving, down to bit 0.
use mathlib.Core.Path.{◌≡◌, refl, ap, sym, ◌∙◌}
use mathlib.Core.Logic.{◌≢◌}
use Prim.Native.Nat.{ℕ, zero, suc, ◌*◌, ◌/◌, ◌%◌, ◌^◌, ◌≤◌, min}
use native.Mathlib.Nat.{pow-suc, div-div-eq-div-mul, div-mul-le_self, mul-le-mul_right, le_trans, mod-le, mul_assoc, pow-succ', min-le_left}
use native.Mathlib.Omega.{arith}
use lib.Bits.{bit_and, and_step, and_shr}
use Rattle.sm83.specs.Basics.{bit_at, cleared}

-- bit k + 1 is bit k of the half
bit_up : (k x : ℕ) → bit_at (suc k) x ≡ bit_at k (x / 2)
bit_up k x = ap (λ (q : ℕ). q % 2) (ap (λ (d : ℕ). x / d) (pow-succ' 2 k) ∙ sym (div-div-eq-div-mul x 2 (2 ^ k)))

-- what the bit weighs is part of the number
weighs : (k x : ℕ) → bit_at k x * 2 ^ k ≤ x
weighs k x = le_trans (mul-le-mul_right (2 ^ k) (mod-le (x / 2 ^ k) 2)) (div-mul-le_self x (2 ^ k))

weight_up : (k x : ℕ) → bit_at (suc k) x * 2 ^ suc k ≡ bit_at k (x / 2) * 2 ^ k * 2
weight_up k x = ap (λ (b : ℕ). b * 2 ^ suc k) (bit_up k x) ∙ ap (λ (d : ℕ). bit_at k (x / 2) * d) (pow-suc 2 k) ∙ sym (mul_assoc (bit_at k (x / 2)) (2 ^ k) 2)

cleared_half : (k x : ℕ) → cleared (suc k) x / 2 ≡ cleared k (x / 2)
cleared_half k x = omega (arith, weight_up k x, weighs k (x / 2))

cleared_odd : (k x : ℕ) → cleared (suc k) x % 2 ≡ x % 2
cleared_odd k x = omega (arith, weight_up k x, weighs k (x / 2))

pub cleared_itself : (k x : ℕ) → bit_at k (cleared k x) ≡ 0
cleared_itself zero x = omega arith
cleared_itself (suc k) x = bit_up k (cleared (suc k) x) ∙ ap (bit_at k) (cleared_half k x) ∙ cleared_itself k (x / 2)

pub cleared_others : (k j x : ℕ) → j ≢ k → bit_at j (cleared k x) ≡ bit_at j x
cleared_others zero zero x h = absurd (h refl)
cleared_others zero (suc j) x h = bit_up j (cleared 0 x) ∙ ap (bit_at j) (omega arith) ∙ sym (bit_up j x)
cleared_others (suc k) zero x h = omega (arith, cleared_odd k x)
cleared_others (suc k) (suc j) x h =
    bit_up j (cleared (suc k) x) ∙ ap (bit_at j) (cleared_half k x) ∙ cleared_others k j (x / 2) (λ e. h (ap suc e)) ∙ sym (bit_up j x)

-- a bit of AND is the lesser of the two bits
pub bit_and_lem : (k x y : ℕ) → bit_at k (bit_and x y) ≡ min (bit_at k x) (bit_at k y)
bit_and_lem k x y =
    ap (λ (q : ℕ). q % 2) (and_shr x y k ∙ and_step (x / 2 ^ k) (y / 2 ^ k)) ∙ omega (arith, min-le_left (bit_at k x) (bit_at k y))
