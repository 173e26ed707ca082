-- The starts of a window: where they lie, and that they are the first address and the starts from the instruction after it.
use mathlib.Core.Path.{◌≡◌, refl, sym, subst}
use mathlib.Core.Logic.{◌⊎◌, inl, inr}
use mathlib.Core.List.{List}
use Prim.Native.Nat.{ℕ, ◌≤◌, ◌<◌}
use native.Mathlib.Omega.{arith}
use Rattle.routine.specs.Flow.{past}
use Rattle.routine.specs.Rules.{Start, at_first, after}

module _ {m : List ℕ} {first end : ℕ} where
  pub start_low : {a : ℕ} → Start m first end a → first ≤ a
  start_low (at_first h) = omega arith
  start_low (after {a = b} s h) = let low : first ≤ b = start_low s in omega arith

  pub start_high : {a : ℕ} → Start m first end a → a < end
  start_high (at_first h) = h
  start_high (after s h) = h

  pub first_or_later : {a : ℕ} → Start m first end a → (a ≡ first) ⊎ Start m (past m first) end a
  first_or_later (at_first h) = inl refl
  first_or_later (after {a = b} s h) = go (first_or_later s)
    where
      go : (b ≡ first) ⊎ Start m (past m first) end b → (past m b ≡ first) ⊎ Start m (past m first) end (past m b)
      go (inl e) = inr (subst (λ (x : ℕ). Start m (past m first) end (past m x)) (sym e) (at_first (subst (λ (x : ℕ). past m x < end) e h)))
      go (inr later) = inr (after later h)

  pub from_later : {a : ℕ} → first < end → Start m (past m first) end a → Start m first end a
  from_later low (at_first h) = after (at_first low) h
  from_later low (after s h) = after (from_later low s) h

  -- starts by equal numbers
  pub moved : {first' end' a b : ℕ} → first ≡ first' → end ≡ end' → a ≡ b → Start m first end a → Start m first' end' b
  moved p q r s = rw (p, q, r) at s
