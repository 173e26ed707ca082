-- The walk shows 7 or 8 at the lowest start where one of them applies, or that all starts are sound.
use Rattle.std.proofs.Common.{if◌then◌else◌}
use mathlib.Core.Path.{◌≡◌, refl, subst, subst⁻¹}
use mathlib.Core.Bool.{Bool, true, false, not}
use mathlib.Core.Logic.{◌⊎◌, inl, inr}
use mathlib.Core.List.{List}
use Prim.Native.Nat.{ℕ, zero, suc, ◌+◌, ◌≤◌, ◌<◌}
use native.Mathlib.Omega.{arith}
use lib.Dec.{T}
use Rattle.routine.specs.declared.ScreenRefusal.TheVariants.{ForbiddenOpcode, PastTheEnd}
use Rattle.routine.specs.Verdict.{Verdict}
use Rattle.opcodes.specs.Instruction.{operands}
use Rattle.routine.specs.Flow.{class_at, instruction_at, past, is_forbidden}
use Rattle.routine.specs.Rules.{Start, at_first, after}
use Rattle.routine.specs.Screen.{refused_at, walk}
use Rattle.routine.proofs.Starts.{start_low, start_high, first_or_later}
use Rattle.routine.proofs.Findings.{Sound, Every, Below, Lowest, Finding, forbidden, runs_past, Shows}

module _ (m : List ℕ) (first end : ℕ) where
  abbrev IsSound : ℕ → Type 0
  IsSound = Sound m first end

  abbrev Told : Verdict → Type 0
  Told = Shows m first end (Every m first end IsSound)

  -- a start is sound and lies below p, or is one of those from p on
  abbrev Sorted : ℕ → ℕ → Type 0
  Sorted p b = (IsSound b × (b < p)) ⊎ Start m p end b

  -- the walk has come to the start p, or to the window's end
  record Reached (p : ℕ) : Type 0 where
    here : p < end → Start m first end p
    sorted : (b : ℕ) → Start m first end b → Sorted p b

  sound_below : {p : ℕ} → Reached p → Below m first end p IsSound
  sound_below {p} r b s low = go (r.sorted b s)
    where
      go : Sorted p b → IsSound b
      go (inl h) = h.0
      go (inr s) = absurd (omega (arith, start_low s))

  lowest : {p : ℕ} → p < end → Reached p → Lowest m first end 7 p
  lowest low r = record { start = r.here low; earlier = λ j none. absurd (omega arith); below = sound_below r }

  reach_next : {p : ℕ} → p < end → Reached p → IsSound p → Reached (past m p)
  reach_next {p} low r ok = record { here = λ h. after (r.here low) h; sorted = λ b s. go b (r.sorted b s) }
    where
      next : (b : ℕ) → (b ≡ p) ⊎ Start m (past m p) end b → Sorted (past m p) b
      next b (inl e) = inl (subst⁻¹ IsSound e ok, omega arith)
      next b (inr s) = inr s

      go : (b : ℕ) → Sorted p b → Sorted (past m p) b
      go b (inl h) = inl (h.0, omega arith)
      go b (inr s) = next b (first_or_later s)

  -- if k bytes are too many, the instruction that began at `start` is the finding; if not, the walk reaches the address after them
  walks : (start k at n : ℕ) → at + n ≡ end → (end < at + k → Finding m first end PastTheEnd start) → (at + k ≤ end → Reached (at + k)) → Told (walk m start k at n)
  unfolding walk
  walks start zero at zero e late r = λ b s. sound_below (r (omega arith)) b s (omega (arith, start_high s))
  walks start (suc k) at zero e late r = late (omega arith)
  walks start zero at (suc n) e late r = test (subst Reached (omega arith) (r (omega arith))) (is_forbidden (class_at m at)) refl (walks at rest (suc at) n (omega arith))
    where
      rest : ℕ
      rest = operands (instruction_at m at)

      test : Reached at → (b : Bool) → is_forbidden (class_at m at) ≡ b → ((end < suc at + rest → Finding m first end PastTheEnd at) → (suc at + rest ≤ end → Reached (suc at + rest)) → Told (walk m at rest (suc at) n)) → Told (if b then refused_at ForbiddenOpcode at else walk m at rest (suc at) n)
      test r true f go = forbidden (lowest (omega arith) r) (rw f tt)
      test r false f go =
          let ok : T (not (is_forbidden (class_at m at))) = rw f tt in
          go (λ far. runs_past (lowest (omega arith) r) ok (omega arith))
          (λ fits. subst Reached (omega arith) (reach_next (omega arith) r (ok, omega arith)))
  walks start (suc k) at (suc n) e late r = walks start k (suc at) n (omega arith) (λ far. late (omega arith)) (λ fits. subst Reached (omega arith) (r (omega arith)))

pub walk_shows : (m : List ℕ) (first n : ℕ) → Shows m first (first + n) (Every m first (first + n) (Sound m first (first + n))) (walk m first 0 first n)
walk_shows m first n = walks m first (first + n) first 0 first n refl (λ far. absurd (omega arith)) (λ fits. subst (Reached m first (first + n)) (omega arith) begun)
  where
    begun : Reached m first (first + n) first
    begun = record { here = at_first; sorted = λ b s. inr s }
