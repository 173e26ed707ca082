-- The test of where an instruction jumps, both ways: it passes where each target does, and fails at a jump whose target fails.
use mathlib.Core.Path.{◌≡◌, refl, subst}
use mathlib.Core.Bool.{Bool, not}
use mathlib.Core.Logic.{◌⊎◌, inl, inr}
use Prim.Native.Nat.{ℕ}
use lib.Dec.{T}
use Rattle.routine.specs.Flow.{Flow, Next, Nowhere, Leaves, LeavesOrNext, GoesTo, GoesToOrNext, Calls, CallsOrNext, jumps_where}

module _ (p : ℕ → Bool) where
  pub target_passes : {f : Flow} {t : ℕ} → (f ≡ GoesTo t) ⊎ (f ≡ GoesToOrNext t) → T (jumps_where p f) → T (p t)
  target_passes (inl j) h = subst (λ (g : Flow). T (jumps_where p g)) j h
  target_passes (inr j) h = subst (λ (g : Flow). T (jumps_where p g)) j h

  pub target_fails : (f : Flow) → T (not (jumps_where p f)) → (t : ℕ) × ((f ≡ GoesTo t) ⊎ (f ≡ GoesToOrNext t)) × T (not (p t))
  target_fails Next h = absurd h
  target_fails Nowhere h = absurd h
  target_fails Leaves h = absurd h
  target_fails LeavesOrNext h = absurd h
  target_fails (GoesTo t) h = (t, inl refl, h)
  target_fails (GoesToOrNext t) h = (t, inr refl, h)
  target_fails (Calls t) h = absurd h
  target_fails (CallsOrNext t) h = absurd h
