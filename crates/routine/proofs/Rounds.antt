-- The rounds of tests in their order: the first that finds anything decides, and a finding is of one round, which asks otherwise at its address.
use mathlib.Core.Path.{◌≡◌, refl, subst⁻¹}
use mathlib.Core.Logic.{◌⊎◌, inl, inr}
use mathlib.Core.List.{List, [], ◌∷◌}
use Prim.Native.Nat.{ℕ, suc, ◌<◌}
use native.Mathlib.Nat.{eq-or-lt_of_le}
use native.Mathlib.Omega.{arith}
use lib.Dec.{T_not}
use lib.Ieee.Bits.{is_true, is_false}
use Rattle.routine.specs.declared.ScreenRefusal.{ScreenRefusal}
use Rattle.routine.specs.Verdict.{Verdict}
use Rattle.std.specs.Prelude.{Ok, Err}
use Rattle.routine.specs.declared.Finding.TheVariants.{BeforeWalk, At}
use Rattle.routine.specs.Flow.{class_at, is_forbidden, ends_routine}
use Rattle.routine.specs.Screen.{first_of}
use Rattle.routine.proofs.Findings.{Asks, refusal_at, place, Every, Before, LowestAt, Finding, forbidden, runs_past, falls_through, strays, Shows}

module _ (m : List ℕ) (first end : ℕ) where
  further : (k : ℕ) → Before m first end k → Every m first end (Asks m first end k) → Before m first end (suc k)
  further k before now j low = by (eq-or-lt_of_le (omega arith))
    where
      by : (j ≡ k) ⊎ (j < k) → Every m first end (Asks m first end j)
      by (inl same) = subst⁻¹ (λ (i : ℕ). Every m first end (Asks m first end i)) same now
      by (inr lower) = before j lower

  -- verdicts that show, from the k-th round on, what each asks or its finding; the round after them
  abbrev pub Told : ℕ → List Verdict → Type 0
  Told k [] = Unit
  Told k (v ∷ l) = (Before m first end k → Shows m first end (Every m first end (Asks m first end k)) v) × Told (suc k) l

  abbrev pub after : ℕ → List Verdict → ℕ
  after k [] = k
  after k (v ∷ l) = after (suc k) l

  pub first_shows : (k : ℕ) (l : List Verdict) → Told k l → Before m first end k → Shows m first end (Before m first end (after k l)) (first_of l)
  first_shows k [] told before = before
  first_shows k (Ok done ∷ l) told before = first_shows (suc k) l told.1 (further k before (told.0 before))
  first_shows k (Err (BeforeWalk r) ∷ l) told before = absurd (told.0 before)
  first_shows k (Err (At r a) ∷ l) told before = told.0 before

  -- a finding is the lowest of its round, which asks otherwise there, and has the round's number
  pub record Broken (r : ScreenRefusal) (a : ℕ) : Type 0 where
    pub round : ℕ
    pub lowest : LowestAt m first end round a
    pub wrong : Asks m first end round a → ⊥
    pub name : r ≡ refusal_at m first end round a

  broken : {r : ScreenRefusal} {a : ℕ} (k : ℕ) → LowestAt m first end k a → (Asks m first end k a → ⊥) → r ≡ refusal_at m first end k a → Broken r a
  broken k low bad same = record { round = k; lowest = low; wrong = bad; name = same }

  abbrev at : ℕ → ℕ
  at = place m first end

  pub breaks : {r : ScreenRefusal} {a : ℕ} → Finding m first end r a → Broken r a
  breaks (forbidden {a} low bad) = broken (at 7) low (λ ok. T_not (is_forbidden (class_at m a)) ok.0 bad) (rw (is_true (is_forbidden (class_at m a)) bad))
  breaks (runs_past {a} low allowed far) = broken (at 7) low (λ ok. omega (arith, ok.1)) (rw (is_false (is_forbidden (class_at m a)) allowed))
  breaks (falls_through {a} low last bad) = broken (at 9) low (λ ok. T_not (ends_routine (class_at m a)) bad (ok last)) refl
  breaks (strays {a} {t} low jump none) = broken (at 10) low (λ ok. none (ok t jump)) refl
