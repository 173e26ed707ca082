-- The search one address at a time: found here, or as on from the next.
use Rattle.std.proofs.Common.{Some, None}
use mathlib.Core.Path.{◌≡◌, ap, ◌∙◌}
use mathlib.Core.Bool.{Bool, true, false}
use mathlib.Core.List.{List}
use Prim.Native.Nat.{ℕ, suc, ◌+◌, ◌-◌, ◌≤◌, ◌<◌}
use native.Mathlib.Omega.{arith}
use Rattle.sm83.specs.State.{addr}
use Rattle.map.specs.Passing.{would_pass, lowest, highest}

module _ (m : List ℕ) (first : ℕ) where
  -- upwards, of the last addresses from `at` on and below `end`
  module _ (at end : ℕ) where
    pub none_left : end ≤ at → lowest m first at (end - at) ≡ None
    unfolding lowest
    none_left done =
        let none : end - at ≡ 0 = omega arith in
        rw none

    module _ (found : Bool) (told : found ≡ would_pass m first at) (more : at < end) where
      here_is : end - at ≡ suc (end - (at + 1))
      here_is = omega arith

      pub found_here : found ≡ true → lowest m first at (end - at) ≡ Some (addr at)
      unfolding lowest
      found_here yes-it = rw (here_is, ← told, yes-it)

      pub not_here : found ≡ false → lowest m first at (end - at) ≡ lowest m first (at + 1) (end - (at + 1))
      unfolding lowest
      not_here no-it =
          let next : suc at ≡ at + 1 = omega arith in
          rw (here_is, ← told, no-it, next)

  -- downwards, of `left` last addresses from the first address on
  module _ (left : ℕ) where
    pub none_below : left ≡ 0 → highest m first left ≡ None
    unfolding highest
    none_below none = rw none

    module _ (found : Bool) (told : found ≡ would_pass m first (first + (left - 1))) (more : 0 < left) where
      top_is : left ≡ suc (left - 1)
      top_is = omega arith

      at_top : highest m first left ≡ highest m first (suc (left - 1))
      at_top = ap (highest m first) top_is

      pub found_at_top : found ≡ true → highest m first left ≡ Some (addr (first + (left - 1)))
      unfolding highest
      found_at_top yes-it = at_top ∙ rw (← told, yes-it)

      pub not_at_top : found ≡ false → highest m first left ≡ highest m first (left - 1)
      unfolding highest
      not_at_top no-it = at_top ∙ rw (← told, no-it)
