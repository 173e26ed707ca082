-- "each start is marked 1, each other byte 0": a mark is 1 at a start of the window and 0 elsewhere, by the walk that leaves the marks.
use mathlib.Core.Path.{◌≡◌, refl, ap}
use mathlib.Core.Bool.{◌&&◌}
use mathlib.Core.Logic.{◌⊎◌, inl, inr, ◌↔◌}
use mathlib.Core.List.{List}
use Prim.Native.Nat.{ℕ, zero, suc, ◌+◌, ◌-◌}
use native.Mathlib.Omega.{arith}
use lib.Dec.{T, eqb, leb, leb→le, le→leb, eqb→eq}
use lib.ListN.{get_or, length}
use mir.Facts.{and_yes, yes_and}
use Rattle.opcodes.specs.Instruction.{operands}
use Rattle.routine.specs.Flow.{instruction_at, past}
use Rattle.routine.specs.Rules.{Start, at_first}
use Rattle.routine.specs.Screen.{marks_from, marks_of, is_marked}
use Rattle.routine.proofs.Starts.{start_low, start_high, first_or_later, from_later, moved}

-- a mark of a byte that is a start, or is none
abbrev pub MarkOf : Type 0 → ℕ → Type 0
MarkOf IsStart mark = ((mark ≡ 1) × IsStart) ⊎ ((mark ≡ 0) × (IsStart → ⊥))

same_start : {A B : Type 0} {mark : ℕ} → (A → B) → (B → A) → MarkOf A mark → MarkOf B mark
same_start to from (inl h) = inl (h.0, to h.1)
same_start to from (inr h) = inr (h.0, λ b. h.1 (from b))

module _ (m : List ℕ) where
  -- with k bytes of an instruction still to come, the starts are those from at + k on
  walked : (k at n i : ℕ) → MarkOf (Start m (at + k) (at + n) (at + i)) (get_or (marks_from m k at n) i 0)
  unfolding marks_from
  walked zero at zero i = inr (refl, λ s. absurd (omega (arith, start_low s, start_high s)))
  walked (suc k) at zero i = inr (refl, λ s. absurd (omega (arith, start_low s, start_high s)))
  walked zero at (suc n) zero = inl (refl, moved {first = at} (omega arith) refl (omega arith) (at_first (omega arith)))
  walked zero at (suc n) (suc i) =
      same_start (λ s. moved (omega arith) refl refl (from_later {first = at} (omega arith) (moved (omega arith) (omega arith) (omega arith) s)))
      (λ s. behind (first_or_later (moved (omega arith) (omega arith) refl s)))
      (walked (operands (instruction_at m at)) (suc at) n i)
    where
      behind : (at + suc i ≡ at) ⊎ Start m (past m at) (at + suc n) (at + suc i) → Start m (suc at + operands (instruction_at m at)) (suc at + n) (suc at + i)
      behind (inl e) = absurd (omega arith)
      behind (inr s) = moved (omega arith) (omega arith) (omega arith) s
  walked (suc k) at (suc n) zero = inr (refl, λ s. absurd (omega (arith, start_low s)))
  walked (suc k) at (suc n) (suc i) = same_start (moved (omega arith) (omega arith) (omega arith)) (moved (omega arith) (omega arith) (omega arith)) (walked k (suc at) n i)

  -- "each start is marked 1, each other byte 0"; past the window nothing is marked
  pub each_mark : (first n i : ℕ) → MarkOf (Start m first (first + n) (first + i)) (get_or (marks_of m first n) i 0)
  each_mark first n i = same_start (moved (omega arith) refl refl) (moved (omega arith) refl refl) (walked 0 first n i)

  -- a mark for each byte of the window
  pub marks_length : (first n : ℕ) → length (marks_of m first n) ≡ n
  unfolding marks_from
  marks_length first n = all 0 first n
    where
      all : (k at n : ℕ) → length (marks_from m k at n) ≡ n
      all zero at zero = refl
      all (suc k) at zero = refl
      all zero at (suc n) = ap suc (all (operands (instruction_at m at)) (suc at) n)
      all (suc k) at (suc n) = ap suc (all k (suc at) n)

  -- "It walks from the first address"
  pub first_mark : (first n : ℕ) → get_or (marks_of m first (suc n)) 0 0 ≡ 1
  unfolding marks_from
  first_mark first n = refl

  -- the test of an address against the marks finds the starts
  pub marked_start : (first n a : ℕ) → T (is_marked (marks_of m first n) first a) ↔ Start m first (first + n) a
  marked_start first n a = (λ t. to _ (and_yes (leb first a) _ t) (each_mark first n (a - first)), λ s. from _ s (each_mark first n (a - first)))
    where
      to : (mark : ℕ) → T (leb first a) × T (eqb mark 1) → MarkOf (Start m first (first + n) (first + (a - first))) mark → Start m first (first + n) a
      to mark t (inl h) = moved refl refl (omega (arith, leb→le first a t.0)) h.1
      to mark t (inr h) = absurd (omega (arith, eqb→eq mark 1 t.1, h.0))

      from : (mark : ℕ) → Start m first (first + n) a → MarkOf (Start m first (first + n) (first + (a - first))) mark → T (leb first a && eqb mark 1)
      from mark s (inl h) = yes_and (leb first a) _ (le→leb first a (start_low s)) (rw h.0 tt)
      from mark s (inr h) = absurd (h.1 (moved refl refl (omega (arith, start_low s)) s))
