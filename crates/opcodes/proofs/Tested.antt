-- A law on numbers below a bound is one computed test: functions whose lists of values are equal agree, and a test that holds at each number holds at any.
use mathlib.Core.Path.{◌≡◌, subst, sym}
use mathlib.Core.Bool.{Bool, true, false, ◌&&◌}
use mathlib.Core.List.{List, [], ◌∷◌}
use Prim.Native.Nat.{ℕ, zero, suc, ◌<◌}
use native.Mathlib.Nat.{le_of_suc-le-suc, not-suc-le-zero}
use native.Mathlib.Decide.{ℕ_discrete}
use native.Mathlib.Omega.{arith}
use lib.Dec.{T}

pub and_left : (a b : Bool) → T (a && b) → T a
and_left true b t = tt
and_left false b t = t

pub and_right : (a b : Bool) → T (a && b) → T b
and_right true b t = t
and_right false b t = absurd t

pub and_both : (a b : Bool) → T a → T b → T (a && b)
and_both true b p q = q
and_both false b p q = p

-- the test holds at each number below n
abbrev pub below : (ℕ → Bool) → ℕ → Bool
below test zero = true
below test (suc n) = test n && below test n

at_or_below : (test : ℕ → Bool) (n k : ℕ) → Dec (k ≡ n) → T (test n) → (k < n → T (test k)) → k < suc n → T (test k)
at_or_below test n k (yes e) t lower h = subst (λ (j : ℕ). T (test j)) (sym e) t
at_or_below test n k (no ne) t lower h = lower (omega arith)

pub at : (test : ℕ → Bool) (n : ℕ) → T (below test n) → (k : ℕ) → k < n → T (test k)
at test zero t k h = absurd (not-suc-le-zero h)
at test (suc n) t k h = at_or_below test n k (ℕ_discrete k n) (and_left (test n) (below test n) t) (at test n (and_right (test n) (below test n) t) k) h

-- the values at the numbers below n
abbrev pub upto : {A : Type 0} → (ℕ → A) → ℕ → List A
upto f zero = []
upto f (suc n) = f 0 ∷ upto (λ k. f (suc k)) n

pub agree : {A : Type 0} (f g : ℕ → A) (n : ℕ) → upto f n ≡ upto g n → (k : ℕ) → k < n → f k ≡ g k
agree f g zero e k h = absurd (not-suc-le-zero h)
agree f g (suc n) e zero h = cc
agree f g (suc n) e (suc k) h = agree (λ k. f (suc k)) (λ k. g (suc k)) n (cc) k (le_of_suc-le-suc h)

-- and for two numbers
pub agree_at_both : {A : Type 0} (f g : ℕ → ℕ → A) (m n : ℕ) → upto (λ j. upto (f j) n) m ≡ upto (λ j. upto (g j) n) m → (j k : ℕ) → j < m → k < n → f j k ≡ g j k
agree_at_both f g m n e j k hj hk = agree (f j) (g j) n (agree (λ j. upto (f j) n) (λ j. upto (g j) n) m e j hj) k hk
