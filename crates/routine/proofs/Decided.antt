-- A finding decides the verdict: of a window there is one finding at most, since it is the lowest of the first round of tests that finds anything.
use mathlib.Core.Path.{◌≡◌, refl, ap₂, sym, subst⁻¹, ◌∙◌}
use mathlib.Core.List.{List}
use Prim.Native.Nat.{ℕ, ◌+◌, ◌≤◌, ◌<◌}
use native.Mathlib.Omega.{arith}
use lib.Dec.{not_T, ltb, ltb→lt, nltb→le}
use Rattle.routine.specs.declared.ScreenRefusal.{ScreenRefusal}
use Rattle.routine.specs.Verdict.{Verdict}
use Rattle.std.specs.Prelude.{Ok, Err}
use Rattle.routine.specs.declared.Finding.TheVariants.{BeforeWalk, At}
use Rattle.routine.specs.Rules.{Rules}
use Rattle.routine.specs.Screen.{refused_at, verdict}
use Rattle.routine.proofs.Findings.{Asks, refusal_at, Shows}
use Rattle.routine.proofs.Rounds.{Broken, breaks}
use Rattle.routine.proofs.Exactly.{verdict_shows, no_finding}

neither_less : {a b : ℕ} → (a < b → ⊥) → (b < a → ⊥) → a ≡ b
neither_less {a} {b} f g = omega (arith, not_less a b f, not_less b a g)
  where
    not_less : (x y : ℕ) → (x < y → ⊥) → y ≤ x
    not_less x y h = nltb→le x y (not_T (ltb x y) (λ t. h (ltb→lt x y t)))

module _ (m : List ℕ) (first end : ℕ) where
  module _ {r s : ScreenRefusal} {a b : ℕ} (x : Broken m first end r a) (y : Broken m first end s b) where
    not_earlier : x.round < y.round → ⊥
    not_earlier low = x.wrong (y.lowest.earlier x.round low a x.lowest.start)

    not_lower : x.round ≡ y.round → a < b → ⊥
    not_lower same low = x.wrong (subst⁻¹ (λ (k : ℕ). Asks m first end k a) same (y.lowest.below a x.lowest.start low))

  one_lowest : {r s : ScreenRefusal} {a b : ℕ} → Broken m first end r a → Broken m first end s b → refused_at r a ≡ refused_at s b
  one_lowest {a} {b} x y =
      let same-round : x.round ≡ y.round = neither_less (not_earlier x y) (not_earlier y x) in
      let same_place : a ≡ b = neither_less (not_lower x y same-round) (not_lower y x (sym same-round)) in
      ap₂ refused_at (x.name ∙ ap₂ (refusal_at m first end) same-round same_place ∙ sym y.name) same_place

  -- two verdicts that show what they say are the same
  pub one_verdict : (v w : Verdict) → Shows m first end (Rules m first end) v → Shows m first end (Rules m first end) w → v ≡ w
  one_verdict (Ok done) (Ok too) p q = refl
  one_verdict (Ok done) (Err (BeforeWalk s)) p q = absurd q
  one_verdict (Ok done) (Err (At s b)) p q = absurd (no_finding p q)
  one_verdict (Err (BeforeWalk r)) w p q = absurd p
  one_verdict (Err (At r a)) (Ok done) p q = absurd (no_finding q p)
  one_verdict (Err (At r a)) (Err (BeforeWalk s)) p q = absurd q
  one_verdict (Err (At r a)) (Err (At s b)) p q = one_lowest (breaks m first end p) (breaks m first end q)

-- each refusal with an address comes exactly when its finding is there
pub decided : (m : List ℕ) (first n : ℕ) (v : Verdict) → Shows m first (first + n) (Rules m first (first + n)) v → verdict m first n ≡ v
decided m first n v shown = one_verdict m first (first + n) (verdict m first n) v (verdict_shows m first n) shown
