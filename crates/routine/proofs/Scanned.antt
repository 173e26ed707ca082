-- A scan shows the lowest start that fails its test, or that every start passes it; and so each test after the walk, in their order.
use Rattle.std.proofs.Common.{if◌then◌else◌}
use mathlib.Core.Path.{◌≡◌, refl, subst, subst⁻¹}
use mathlib.Core.Bool.{Bool, true, false, not, ◌&&◌}
use mathlib.Core.Logic.{◌⊎◌, inl, inr, ◌↔◌}
use mathlib.Core.List.{List, [], ◌∷◌, map}
use Prim.Native.Nat.{ℕ, zero, suc, ◌+◌, ◌<◌}
use native.Mathlib.Nat.{eq-or-lt_of_le}
use native.Mathlib.Omega.{arith}
use lib.Dec.{T, T_not, not_T, eqb, eqb→eq}
use borrow.Author.Tests.{eq-eqb}
use mir.Facts.{and_yes, yes_and, T_not-not}
use Rattle.routine.specs.Verdict.{Verdict}
use Rattle.routine.specs.Flow.{class_at, flow_at, past, ends_routine}
use Rattle.routine.specs.Rules.{Start}
use Rattle.routine.specs.Screen.{Test, Ends, Lands, refused_at, scan, passes, refusal_of, scan_for, tests}
use Rattle.routine.proofs.Starts.{start_low, start_high}
use Rattle.routine.proofs.Jumps.{target_passes, target_fails}
use Rattle.routine.proofs.Findings.{Asks, place, Every, Below, Before, Lowest, LowestAt, Finding, falls_through, strays, Shows}
use Rattle.routine.proofs.Rounds as rounds

module _ (m : List ℕ) (first end : ℕ) (marked : ℕ → Bool) (is-start : (a : ℕ) → T (marked a) ↔ Start m first end a) where
  -- a test of the k-th round: to pass it is what the round asks, to fail it a finding
  pub record Tells (k : ℕ) (t : Test) : Type 0 where
    pub right : (a : ℕ) → T (passes t m marked end a) → Asks m first end k a
    pub wrong : (a : ℕ) → LowestAt m first end k a → T (not (passes t m marked end a)) → Finding m first end (refusal_of t) a

  module _ (k : ℕ) (t : Test) (tells : Tells k t) (before : Before m first end k) where
    abbrev test : ℕ → Bool
    test = passes t m marked end

    abbrev P : ℕ → Type 0
    P = Asks m first end k

    abbrev Told : Verdict → Type 0
    Told = Shows m first end (Every m first end P)

    scans : (at n : ℕ) → at + n ≡ end → Below m first end at P → Told (scan (refusal_of t) marked test at n)
    unfolding scan
    scans at zero e below = λ b s. below b s (omega (arith, start_high s))
    scans at (suc n) e below = at_this (marked at && not (test at)) refl (scans (suc at) n (omega arith))
      where
        at_this : (b : Bool) → marked at && not (test at) ≡ b → (Below m first end (suc at) P → Told (scan (refusal_of t) marked test (suc at) n)) → Told (if b then refused_at (refusal_of t) at else scan (refusal_of t) marked test (suc at) n)
        at_this true f rest =
            let h : T (marked at) × T (not (test at)) = and_yes (marked at) (not (test at)) (rw f tt) in
            tells.wrong at (record { start = (is-start at).0 h.0; earlier = before; below = below }) h.1
        at_this false f rest = rest (λ b s low. up_to b s (eq-or-lt_of_le (omega arith)))
          where
            holds : Start m first end at → T (test at)
            holds s = T_not-not (test at) (not_T (not (test at)) (λ h. subst T f (yes_and (marked at) (not (test at)) ((is-start at).1 s) h)))

            up_to : (b : ℕ) → Start m first end b → (b ≡ at) ⊎ (b < at) → P b
            up_to b s (inl same) = subst⁻¹ P same (tells.right at (holds (subst (Start m first end) same s)))
            up_to b s (inr low) = below b s low

  scan_shows : (k : ℕ) (t : Test) → Tells k t → (n : ℕ) → first + n ≡ end → Before m first end k → Shows m first end (Every m first end (Asks m first end k)) (scan (refusal_of t) marked (passes t m marked end) first n)
  scan_shows k t tells n e before = scans k t tells before first n e (λ b s low. absurd (omega (arith, start_low s)))

  -- 9
  ends_tells : Tells (place m first end 9) Ends
  ends_tells = record { right = λ a t last. subst (λ (b : Bool). T (if b then ends_routine (class_at m a) else true)) (eq-eqb _ _ last) t; wrong = λ a low t. fails a low (eqb (past m a) end) refl t }
    where
      fails : (a : ℕ) → Lowest m first end 9 a → (b : Bool) → eqb (past m a) end ≡ b → T (not (if b then ends_routine (class_at m a) else true)) → Finding m first end (refusal_of Ends) a
      fails a low true f t = falls_through low (eqb→eq _ end (rw f tt)) t
      fails a low false f t = absurd t

  -- 10
  lands_tells : Tells (place m first end 10) Lands
  lands_tells = record { right = λ a h t jump. (is-start t).0 (target_passes marked jump h); wrong = fails }
    where
      fails : (a : ℕ) → Lowest m first end 10 a → T (not (passes Lands m marked end a)) → Finding m first end (refusal_of Lands) a
      fails a low h =
          let (t, jump, unmarked) = target_fails marked (flow_at m a) h in
          strays low jump (λ there. T_not (marked t) unmarked ((is-start t).1 there))

  -- tests of the rounds from the k-th on
  abbrev pub InOrder : ℕ → List Test → Type 0
  InOrder k [] = Unit
  InOrder k (t ∷ l) = Tells k t × InOrder (suc k) l

  pub tests_tell : InOrder 1 tests
  tests_tell = (ends_tells, (lands_tells, tt))

module _ (m : List ℕ) (first n : ℕ) (marked : ℕ → Bool) (is-start : (a : ℕ) → T (marked a) ↔ Start m first (first + n) a) where
  pub scans_show : (k : ℕ) (l : List Test) → InOrder m first (first + n) marked is-start k l → rounds.Told m first (first + n) k (map (scan_for m marked first n) l)
  scans_show k [] tells = tt
  scans_show k (t ∷ l) tells = (scan_shows m first (first + n) marked is-start k t tells.0 n refl, scans_show (suc k) l tells.1)
