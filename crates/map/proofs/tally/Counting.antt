-- Counting index by index: one more index adds one if the test holds there, and there are never more than indexes.
use mathlib.Core.Path.{◌≡◌, refl, ap, ◌∙◌}
use mathlib.Core.Bool.{Bool, true, false}
use Prim.Native.Nat.{ℕ, zero, suc, ◌+◌, ◌≤◌}
use native.Mathlib.Numerals.{add-one}
use native.Mathlib.Omega.{arith}
use mir.Val.{bool_byte}
use Rattle.sm83.specs.Basics.{bit}
use Rattle.map.specs.Counts.{how_many}

bit_small : (b : Bool) → bit b ≤ 1
bit_small true = omega arith
bit_small false = omega arith

as_bit : (b : Bool) → bool_byte b ≡ bit b
as_bit true = refl
as_bit false = refl

module _ (p : ℕ → Bool) where
  pub none : 0 ≡ how_many p 0
  unfolding how_many
  none = refl

  at_most : (n : ℕ) → how_many p n ≤ n
  unfolding how_many
  at_most zero = omega arith
  at_most (suc n) = omega (arith, at_most n, bit_small (p n))

  -- with what the code tells of the test at an index
  module _ (i n w : ℕ) (told : Bool) (so_far : n ≡ how_many p i) (here : w ≡ bool_byte told) (right : told ≡ p i) where
    pub one_more : n + w ≡ how_many p (i + 1)
    unfolding how_many
    one_more =
        let adds : w ≡ bit (p i) = here ∙ as_bit told ∙ ap bit right in
        rw (add-one, ← so_far, ← adds)

    pub bounded : n + w ≤ i + 1
    bounded = omega (arith, one_more, at_most (i + 1))
