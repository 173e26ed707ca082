-- A law on numbers below a bound, as the sixteen digits, is one computed test: functions with the same values there agree.
use mathlib.Core.Path.{◌≡◌}
use mathlib.Core.List.{List, [], ◌∷◌}
use Prim.Native.Nat.{ℕ, zero, suc, ◌<◌}
use native.Mathlib.Nat.{le_of_suc-le-suc, not-suc-le-zero}

abbrev pub upto : {A : Type 0} → (ℕ → A) → ℕ → List A
upto f zero = []
upto f (suc n) = f 0 ∷ upto (λ k. f (suc k)) n

pub agree : {A : Type 0} (f g : ℕ → A) (n : ℕ) → upto f n ≡ upto g n → (k : ℕ) → k < n → f k ≡ g k
agree f g zero e k h = absurd (not-suc-le-zero h)
agree f g (suc n) e zero h = cc
agree f g (suc n) e (suc k) h = agree (λ k. f (suc k)) (λ k. g (suc k)) n (cc) k (le_of_suc-le-suc h)
