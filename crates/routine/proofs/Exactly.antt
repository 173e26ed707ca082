-- "It passes exactly when none of these applies": the verdict on a window passes exactly when the window keeps the rules, and else shows its finding.
-- Addresses are plain numbers here: nothing is asked of first and n, so the screen's callers, with first ≤ last < 65,536, are among them.
use mathlib.Core.Path.{◌≡◌, refl, subst}
use mathlib.Core.Bool.{not}
use mathlib.Core.Logic.{◌⊎◌, inl, inr, ◌↔◌}
use mathlib.Core.List.{List}
use Prim.Native.Nat.{ℕ, zero, suc, ◌+◌, ◌≤◌, ◌<◌}
use native.Mathlib.Nat.{eq-or-lt_of_le}
use native.Mathlib.Omega.{arith}
use lib.Dec.{T, T_not}
use lib.ListN.{length}
use Rattle.sm83.specs.declared.Addr.{Addr}
use Rattle.routine.specs.declared.ScreenRefusal.{ScreenRefusal}
use Rattle.routine.specs.Verdict.{Verdict}
use Rattle.std.specs.Prelude.{Ok, Err}
use Rattle.routine.specs.declared.Finding.TheVariants.{BeforeWalk, At}
use Rattle.routine.specs.Flow.{class_at, past, ends_routine}
use Rattle.routine.specs.Rules.{Start, at_first, after, Rules}
use Rattle.routine.specs.Screen.{marks_of, is_marked, tests, findings, verdict}
use Rattle.routine.proofs.Starts.{start_high}
use Rattle.routine.proofs.Marks.{marked_start}
use Rattle.routine.proofs.Findings.{Asks, place, Every, Before, Finding, Shows}
use Rattle.routine.proofs.Rounds.{first_shows, Broken, breaks}
use Rattle.routine.proofs.Walked.{walk_shows}
use Rattle.routine.proofs.Scanned.{tests_tell, scans_show}

module _ (m : List ℕ) (first end : ℕ) where
  -- the rules are what the rounds ask of every start
  abbrev at : ℕ → ℕ
  at = place m first end

  kept : Before m first end (suc (length tests)) → Rules m first end
  kept asked =
      record {
        allowed = λ a s. (asked (at 7) (omega arith) a s).0;
        fits = λ a s. (asked (at 7) (omega arith) a s).1;
        ends = asked (at 9) (omega arith);
        lands = λ a t s jump. asked (at 10) (omega arith) a s t jump;
      }

  asked_of_all : Rules m first end → (k : ℕ) → Every m first end (Asks m first end k)
  asked_of_all rules zero = λ a s. (rules.allowed a s, rules.fits a s)
  asked_of_all rules (suc zero) = rules.ends
  asked_of_all rules (suc (suc k)) = λ a s t jump. rules.lands a t s jump

-- what the verdict on a window shows: the rules if it passes, the finding if it names an address
pub verdict_shows : (m : List ℕ) (first n : ℕ) → Shows m first (first + n) (Rules m first (first + n)) (verdict m first n)
unfolding verdict
verdict_shows m first n =
    let end = first + n in
    let marked = is_marked (marks_of m first n) first in
    let is-start = marked_start m first n in
    in_words (verdict m first n)
    (first_shows m first end 0 (findings m marked first n) (λ before. walk_shows m first n, scans_show m first n marked is-start 1 tests (tests_tell m first end marked is-start)) (λ j low. absurd (omega arith)))
  where
    in_words : (v : Verdict) → Shows m first (first + n) (Before m first (first + n) (suc (length tests))) v → Shows m first (first + n) (Rules m first (first + n)) v
    in_words (Ok done) asked = kept m first (first + n) asked
    in_words (Err (BeforeWalk r)) none = none
    in_words (Err (At r a)) finding = finding

pub found : (m : List ℕ) (first n : ℕ) (r : ScreenRefusal) (a : Addr) → verdict m first n ≡ Err (At r a) → Finding m first (first + n) r a.0
found m first n r a e = subst (Shows m first (first + n) (Rules m first (first + n))) e (verdict_shows m first n)

module _ {m : List ℕ} {first end : ℕ} (rules : Rules m first end) where
  -- where the rules are kept there is nothing to find
  pub no_finding : {r : ScreenRefusal} {a : ℕ} → Finding m first end r a → ⊥
  no_finding {r} {a} f = let b : Broken m first end r a = breaks m first end f in b.wrong (asked_of_all m first end rules b.round a b.lowest.start)

  -- what does not end the routine is followed by a start
  pub onward : {a : ℕ} → Start m first end a → T (not (ends_routine (class_at m a))) → Start m first end (past m a)
  onward {a} s goes_on = go (eq-or-lt_of_le (rules.fits a s))
    where
      go : (past m a ≡ end) ⊎ (past m a < end) → Start m first end (past m a)
      go (inl last) = absurd (T_not (ends_routine (class_at m a)) goes_on (rules.ends a s last))
      go (inr low) = after s low

  -- there is a last instruction, so 9 speaks of one
  pub last_instruction : first < end → (a : ℕ) × Start m first end a × (past m a ≡ end) × T (ends_routine (class_at m a))
  last_instruction low = from end first (at_first low) (omega arith)
    where
      from : (fuel a : ℕ) → Start m first end a → end ≤ a + fuel → (b : ℕ) × Start m first end b × (past m b ≡ end) × T (ends_routine (class_at m b))
      from zero a s near = absurd (omega (arith, start_high s))
      from (suc fuel) a s near = go (eq-or-lt_of_le (rules.fits a s)) (λ low. from fuel (past m a) (after s low) (omega arith))
        where
          go : (past m a ≡ end) ⊎ (past m a < end) → (past m a < end → (b : ℕ) × Start m first end b × (past m b ≡ end) × T (ends_routine (class_at m b))) → (b : ℕ) × Start m first end b × (past m b ≡ end) × T (ends_routine (class_at m b))
          go (inl last) rest = (a, s, last, rules.ends a s last)
          go (inr low) rest = rest low

-- "It passes exactly when none of these applies."
pub exactly : (m : List ℕ) (first n : ℕ) → (verdict m first n ≡ Ok tt) ↔ Rules m first (first + n)
exactly m first n = (λ e. subst (Shows m first (first + n) (Rules m first (first + n))) e (verdict_shows m first n), λ rules. only rules (verdict m first n) (verdict_shows m first n))
  where
    only : Rules m first (first + n) → (v : Verdict) → Shows m first (first + n) (Rules m first (first + n)) v → v ≡ Ok tt
    only rules (Ok done) shown = refl
    only rules (Err (BeforeWalk r)) shown = absurd shown
    only rules (Err (At r a)) shown = absurd (no_finding rules shown)
