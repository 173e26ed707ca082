-- The answers are the nearest: with what is found the window passes, and with nothing nearer; where nothing is found, with nothing at all.
use Rattle.std.proofs.Common.{Option, Some, None}
use mathlib.Core.Path.{◌≡◌, refl, sym, ap, subst, ◌∙◌}
use mathlib.Core.Bool.{Bool, true, false}
use mathlib.Core.List.{List}
use Prim.Native.Nat.{ℕ, zero, suc, ◌+◌, ◌≤◌, ◌<◌}
use native.Mathlib.Decide.{ℕ_discrete}
use native.Mathlib.Omega.{arith}
use Rattle.sm83.specs.declared.Addr.{Addr}
use Rattle.sm83.specs.State.{addr}
use Rattle.map.specs.Passing.{would_pass, lowest, highest}

-- an answer's address, and a number above it where there is none
abbrev number : Option Addr → ℕ
number None = 65536
number (Some a) = a.0

abbrev found : Option Addr → ℕ
found None = 0
found (Some a) = 1

-- a number from one on is that one, or further on
this_or_later : (P : ℕ → Type 0) (at b : ℕ) → Dec (at ≡ b) → at ≤ b → P at → (suc at ≤ b → P b) → P b
this_or_later P at b (yes e) low here later = subst P e here
this_or_later P at b (no other) low here later = later (omega arith)

module _ (m : List ℕ) (first : ℕ) where
  abbrev Fails : ℕ → Type 0
  Fails b = would_pass m first b ≡ false

  -- upwards, of n last addresses from `at` on
  abbrev pub Above : ℕ → ℕ → Type 0
  Above at a = (would_pass m first a ≡ true) × (at ≤ a) × ((b : ℕ) → at ≤ b → b < a → Fails b)

  pub nearest_above : (at n a : ℕ) → lowest m first at n ≡ Some (addr a) → Above at a
  unfolding lowest
  nearest_above at zero a e = let none : ◌≡◌ {A = ℕ} 0 1 = ap found e in absurd (omega arith)
  nearest_above at (suc n) a e = by (would_pass m first at) refl (nearest_above (suc at) n a)
    where
      by : (b : Bool) → would_pass m first at ≡ b → (lowest m first (suc at) n ≡ Some (addr a) → Above (suc at) a) → Above at a
      by true t rest =
          let same : lowest m first at (suc n) ≡ Some (addr at) = rw t in
          let here : at ≡ a = ap number (sym same ∙ e) in
          (ap (would_pass m first) (sym here) ∙ t, omega arith, λ b low high. absurd (omega arith))
      by false t rest =
          let same : lowest m first at (suc n) ≡ lowest m first (suc at) n = rw t in
          let later = rest (sym same ∙ e) in
          let low_end : suc at ≤ a = later.1 in
          (later.0, omega arith, λ b low high. this_or_later Fails at b (ℕ_discrete at b) low t (λ further. later.2 b further high))

  pub none_above : (at n : ℕ) → lowest m first at n ≡ None → (b : ℕ) → at ≤ b → b < at + n → Fails b
  unfolding lowest
  none_above at zero e b low high = absurd (omega arith)
  none_above at (suc n) e b low high = by (would_pass m first at) refl (λ f further. none_above (suc at) n f b further (omega arith))
    where
      by : (t : Bool) → would_pass m first at ≡ t → (lowest m first (suc at) n ≡ None → suc at ≤ b → Fails b) → Fails b
      by true t rest =
          let same : lowest m first at (suc n) ≡ Some (addr at) = rw t in
          let none : ◌≡◌ {A = ℕ} 1 0 = ap found (sym same ∙ e) in
          absurd (omega arith)
      by false t rest =
          let same : lowest m first at (suc n) ≡ lowest m first (suc at) n = rw t in
          this_or_later Fails at b (ℕ_discrete at b) low t (rest (sym same ∙ e))

  -- downwards, of n last addresses from the first address on
  abbrev pub Below : ℕ → ℕ → Type 0
  Below n a = (would_pass m first a ≡ true) × (first ≤ a) × (a < first + n) × ((b : ℕ) → a < b → b < first + n → Fails b)

  pub nearest_below : (n a : ℕ) → highest m first n ≡ Some (addr a) → Below n a
  unfolding highest
  nearest_below zero a e = let none : ◌≡◌ {A = ℕ} 0 1 = ap found e in absurd (omega arith)
  nearest_below (suc n) a e = by (would_pass m first (first + n)) refl (nearest_below n a)
    where
      by : (b : Bool) → would_pass m first (first + n) ≡ b → (highest m first n ≡ Some (addr a) → Below n a) → Below (suc n) a
      by true t rest =
          let same : highest m first (suc n) ≡ Some (addr (first + n)) = rw t in
          let here : first + n ≡ a = ap number (sym same ∙ e) in
          (ap (would_pass m first) (sym here) ∙ t, omega arith, omega arith, λ b low high. absurd (omega arith))
      by false t rest =
          let same : highest m first (suc n) ≡ highest m first n = rw t in
          let lower = rest (sym same ∙ e) in
          let low_end : first ≤ a = lower.1 in
          let high_end : a < first + n = lower.2 in
          (lower.0, low_end, omega arith, λ b low high. this_or_earlier b low high (ℕ_discrete (first + n) b) (lower.3 b low))
        where
          this_or_earlier : (b : ℕ) → a < b → b < first + suc n → Dec (first + n ≡ b) → (b < first + n → Fails b) → Fails b
          this_or_earlier b low high (yes f) earlier = subst Fails f t
          this_or_earlier b low high (no other) earlier = earlier (omega arith)

  pub none_below : (n : ℕ) → highest m first n ≡ None → (b : ℕ) → first ≤ b → b < first + n → Fails b
  unfolding highest
  none_below zero e b low high = absurd (omega arith)
  none_below (suc n) e b low high = by (would_pass m first (first + n)) refl (ℕ_discrete (first + n) b) (λ f earlier. none_below n f b low earlier)
    where
      by : (t : Bool) → would_pass m first (first + n) ≡ t → Dec (first + n ≡ b) → (highest m first n ≡ None → b < first + n → Fails b) → Fails b
      by true t d rest =
          let same : highest m first (suc n) ≡ Some (addr (first + n)) = rw t in
          let none : ◌≡◌ {A = ℕ} 1 0 = ap found (sym same ∙ e) in
          absurd (omega arith)
      by false t (yes f) rest = subst Fails f t
      by false t (no other) rest =
          let same : highest m first (suc n) ≡ highest m first n = rw t in
          rest (sym same ∙ e) (omega arith)
