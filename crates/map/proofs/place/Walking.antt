-- The walk byte by byte: one byte more leaves the same instruction to hold the byte that is asked for.
use mathlib.Core.Path.{◌≡◌, refl, ap, ◌∙◌}
use mathlib.Core.List.{List}
use Prim.Native.Nat.{ℕ, zero, suc, ◌+◌, ◌-◌, ◌≤◌, ◌<◌}
use native.Mathlib.Omega.{arith}
use lib.Dec.{eqb}
use borrow.Author.Tests.{ne_eqb}
use Rattle.std.proofs.Common.{if◌then◌else◌}
use Rattle.definition.specs.Bus.{byte_at}
use Rattle.map.specs.Walk.{left_after}
use Rattle.map.specs.Place.{holder}

module _ (m : List ℕ) (start at : ℕ) where
  one_more : (left n : ℕ) → holder m start left at (suc n) ≡ holder m (if eqb left 0 then at else start) (left_after left (byte_at m at)) (suc at) n
  unfolding holder
  one_more zero n = refl
  one_more (suc k) n = rw (ne_eqb (suc k) 0 (λ e. omega arith))

  pub goes_on : (left target to_come begun : ℕ) → to_come ≡ left_after left (byte_at m at) → begun ≡ (if eqb left 0 then at else start) → at < target → holder m start left at (target - at) ≡ holder m begun to_come (at + 1) (target - (at + 1))
  goes_on left target to_come begun e f more =
      let there : target - at ≡ suc (target - (at + 1)) = omega arith in
      let next : suc at ≡ at + 1 = omega arith in
      ap (holder m start left at) there ∙ one_more left (target - (at + 1)) ∙ rw (← e, ← f, next)

  -- the byte that is asked for starts an instruction, or is inside the one before it
  pub at_start : (left target : ℕ) → left ≡ 0 → target ≤ at → holder m start left at (target - at) ≡ at
  unfolding holder
  at_start left target e done =
      let none : target - at ≡ 0 = omega arith in
      rw (e, none)

  pub inside : (left target : ℕ) → (left ≡ 0 → ⊥) → target ≤ at → holder m start left at (target - at) ≡ start
  unfolding holder
  inside zero target more done = absurd (more refl)
  inside (suc k) target more done =
      let none : target - at ≡ 0 = omega arith in
      rw none
