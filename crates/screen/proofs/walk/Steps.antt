-- One instruction of the walk. The definition walks byte by byte; here it goes on by a whole instruction, which is allowed and fits.
use mathlib.Core.Path.{◌≡◌, refl, ap, ap₂, ◌∙◌}
use mathlib.Core.Bool.{true, false}
use mathlib.Core.List.{List, ◌∷◌}
use Prim.Native.Nat.{ℕ, zero, suc, ◌+◌, ◌≤◌, ◌<◌}
use native.Mathlib.Omega.{arith}
use lib.ListN.{take, drop, replicate}
use Rattle.routine.specs.declared.ScreenRefusal.TheVariants.{ForbiddenOpcode, PastTheEnd}
use Rattle.opcodes.specs.Instruction.{operands, length_of}
use Rattle.routine.specs.Flow.{class_at, instruction_at, is_forbidden}
use Rattle.routine.specs.Screen.{refused_at, walk, marks_from}

-- what passes over the bytes still to come one by one passes over all of them
pass : {A : Type 0} (f : ℕ → ℕ → ℕ → A) → ((k at n : ℕ) → f (suc k) at (suc n) ≡ f k (suc at) n) → (k at n to left : ℕ) → to ≡ at + k → n ≡ left + k → f k at n ≡ f 0 to left
pass f one zero at n to left e h = ap₂ (f 0) (omega arith) (omega arith)
pass f one (suc k) at zero to left e h = absurd (omega arith)
pass f one (suc k) at (suc n) to left e h = one k at n ∙ pass f one k (suc at) n to left (omega arith) (omega arith)

module _ (m : List ℕ) where
  abbrev pub length_at : ℕ → ℕ
  length_at a = length_of (instruction_at m a)

  -- at a start it does not matter where the instruction before began
  same_start : (start other at n : ℕ) → walk m start 0 at n ≡ walk m other 0 at n
  unfolding walk
  same_start start other at zero = refl
  same_start start other at (suc n) = refl

  too_far : (start k at n : ℕ) → n < k → walk m start k at n ≡ refused_at PastTheEnd start
  unfolding walk
  too_far start zero at n low = absurd (omega arith)
  too_far start (suc k) at zero low = refl
  too_far start (suc k) at (suc n) low = too_far start k (suc at) n (omega arith)

  zeros : (k at n : ℕ) → k ≤ n → take k (marks_from m k at n) ≡ replicate k 0
  unfolding marks_from
  zeros zero at n low = refl
  zeros (suc k) at zero low = absurd (omega arith)
  zeros (suc k) at (suc n) low = ap (λ (l : List ℕ). 0 ∷ l) (zeros k (suc at) n (omega arith))

  module _ (start at : ℕ) where
    pub refused_7 : (n : ℕ) → 0 < n → is_forbidden (class_at m at) ≡ true → walk m start 0 at n ≡ refused_at ForbiddenOpcode at
    unfolding walk
    refused_7 zero some bad = absurd (omega arith)
    refused_7 (suc n) some bad = rw bad

    pub refused_8 : (n : ℕ) → 0 < n → is_forbidden (class_at m at) ≡ false → n < length_at at → walk m start 0 at n ≡ refused_at PastTheEnd at
    unfolding walk
    refused_8 zero some ok far = absurd (omega arith)
    refused_8 (suc n) some ok far = rw ok (too_far at (operands (instruction_at m at)) (suc at) n (omega arith))

    -- on to the next start
    module _ (to left : ℕ) (e : to ≡ at + length_at at) where
      pub walk_on : (n : ℕ) → n ≡ left + length_at at → is_forbidden (class_at m at) ≡ false → walk m start 0 at n ≡ walk m start 0 to left
      unfolding walk
      walk_on zero h ok = absurd (omega arith)
      walk_on (suc n) h ok = rw ok (pass (walk m at) (λ k a r. refl) (operands (instruction_at m at)) (suc at) n to left (omega arith) (omega arith) ∙ same_start at start to left)

      pub marks_on : (n : ℕ) → n ≡ left + length_at at → drop (length_at at) (marks_from m 0 at n) ≡ marks_from m 0 to left
      unfolding marks_from
      marks_on zero h = absurd (omega arith)
      marks_on (suc n) h = pass (λ k a r. drop k (marks_from m k a r)) (λ k a r. refl) (operands (instruction_at m at)) (suc at) n to left (omega arith) (omega arith)

  -- "each start is marked 1, each other byte 0"
  pub marks_of_one : (at n : ℕ) → length_at at ≤ n → take (length_at at) (marks_from m 0 at n) ≡ 1 ∷ replicate (operands (instruction_at m at)) 0
  unfolding marks_from
  marks_of_one at zero fits = absurd (omega arith)
  marks_of_one at (suc n) fits = ap (λ (l : List ℕ). 1 ∷ l) (zeros (operands (instruction_at m at)) (suc at) n (omega arith))
