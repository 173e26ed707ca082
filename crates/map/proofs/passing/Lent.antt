-- Whether a window passes: not if it is the wrong way round or too long; else as the screen says, whatever marks are lent, if they are as many as its bytes.
use Rattle.std.proofs.Common.{is_ok}
use mathlib.Core.Path.{◌≡◌, sym, ap, ◌∙◌}
use mathlib.Core.Bool.{Bool, false}
use mathlib.Core.Logic.{◌⊎◌, inl, inr}
use mathlib.Core.List.{List}
use Prim.Native.Nat.{ℕ, ◌<◌}
use native.Mathlib.Omega.{arith}
use lib.ListN.{length, replicate, length-replicate}
use Rattle.routine.specs.declared.ScreenRefusal.{ScreenRefusal}
use Rattle.routine.specs.Verdict.{Verdict}
use Rattle.routine.specs.Screen.{Screened, longest_window, screen}
use Rattle.routine.proofs.Before.{window, Early, wrong_memory, reversed, too_long, wrong_marks, Admitted, early_or_admitted, refuses, admits}
use Rattle.map.specs.Passing.{would_pass}

module _ (m : List ℕ) (first last : ℕ) where
  abbrev zeros : List ℕ
  zeros = replicate (window first last) 0

  as_many : length zeros ≡ window first last
  as_many = length-replicate {A = ℕ} (window first last) 0

  early_fails : {r : ScreenRefusal} → Early m first last zeros r → false ≡ would_pass m first last
  early_fails e = sym (ap (λ (s : Screened). is_ok s.verdict) (refuses m first last zeros e))

  -- no window that is not admitted passes
  pub not_admitted : (Admitted m first last zeros → ⊥) → false ≡ would_pass m first last
  not_admitted no_way = by (early_or_admitted m first last zeros)
    where
      by : ((r : ScreenRefusal) × Early m first last zeros r) ⊎ Admitted m first last zeros → false ≡ would_pass m first last
      by (inl e) = early_fails e.1
      by (inr ok) = absurd (no_way ok)

  pub wrong_way : last < first → false ≡ would_pass m first last
  wrong_way low = not_admitted (λ ok. omega (arith, ok.order))

  pub over_long : longest_window < window first last → false ≡ would_pass m first last
  over_long long = not_admitted (λ ok. omega (arith, ok.size))

  -- as the screen says on other marks
  pub as_screened : (marks : List ℕ) → length marks ≡ window first last → (v : Verdict) → v ≡ (screen m first last marks).verdict → (b : Bool) → b ≡ is_ok v → b ≡ would_pass m first last
  as_screened marks lent v e b f = f ∙ ap is_ok e ∙ by (early_or_admitted m first last zeros)
    where
      again : {r : ScreenRefusal} → Early m first last zeros r → Early m first last marks r
      again (wrong_memory k) = wrong_memory k
      again (reversed k o) = reversed k o
      again (too_long k o z) = too_long k o z
      again (wrong_marks k o z w) = absurd (w as_many)

      by : ((r : ScreenRefusal) × Early m first last zeros r) ⊎ Admitted m first last zeros → is_ok (screen m first last marks).verdict ≡ would_pass m first last
      by (inl q) = ap (λ (s : Screened). is_ok s.verdict) (refuses m first last marks (again q.1)) ∙ early_fails q.1
      by (inr ok) = ap (λ (s : Screened). is_ok s.verdict) (admits m first last marks (record { memory = ok.memory; order = ok.order; size = ok.size; marks_size = lent }) ∙ sym (admits m first last zeros ok))
