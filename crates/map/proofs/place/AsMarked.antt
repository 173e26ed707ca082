-- A byte of the window starts the instruction that holds it exactly when the screen's walk marks it: what is no start is what refusal 10 refuses.
use mathlib.Core.Path.{◌≡◌, sym, ap, ◌∙◌}
use mathlib.Core.List.{List}
use Prim.Native.Nat.{ℕ, zero, suc, ◌+◌, ◌-◌, ◌≤◌, ◌<◌}
use native.Mathlib.Omega.{arith}
use lib.Dec.{eqb}
use lib.ListN.{get_or}
use borrow.Author.Tests.{eq-eqb, ne_eqb, le-leb}
use Rattle.opcodes.specs.Instruction.{operands}
use Rattle.routine.specs.Flow.{instruction_at}
use Rattle.routine.specs.Screen.{marks_from, marks_of, is_marked}
use Rattle.map.specs.Place.{holder}

module _ (m : List ℕ) where
  -- of the instruction that began at start, k bytes are still to come
  at_index : (start k at n j : ℕ) → (0 < k → start < at) → j < n → eqb (get_or (marks_from m k at n) j 0) 1 ≡ eqb (holder m start k at j) (at + j)
  unfolding marks_from holder
  at_index start k at zero j before low = absurd (omega arith)
  at_index start zero at (suc n) zero before low = sym (eq-eqb at (at + 0) (omega arith))
  at_index start (suc k) at (suc n) zero before low =
      let early : start < at = before (omega arith) in
      sym (ne_eqb start (at + 0) (λ e. omega arith))
  at_index start zero at (suc n) (suc j) before low =
      let there : suc at + j ≡ at + suc j = omega arith in
      at_index at (operands (instruction_at m at)) (suc at) n j (λ some. omega arith) (omega arith) ∙ ap (eqb (holder m at (operands (instruction_at m at)) (suc at) j)) there
  at_index start (suc k) at (suc n) (suc j) before low =
      let early : start < at = before (omega arith) in
      let there : suc at + j ≡ at + suc j = omega arith in
      at_index start k (suc at) n j (λ some. omega arith) (omega arith) ∙ ap (eqb (holder m start k (suc at) j)) there

  -- in a window of n bytes
  pub as_marked : (first n target : ℕ) → first ≤ target → target < first + n → is_marked (marks_of m first n) first target ≡ eqb (holder m first 0 first (target - first)) target
  as_marked first n target low high =
      let there : first + (target - first) ≡ target = omega arith in
      rw (le-leb first target low) (at_index first 0 first n (target - first) (λ some. absurd (omega arith)) (omega arith) ∙ ap (eqb (holder m first 0 first (target - first))) there)
