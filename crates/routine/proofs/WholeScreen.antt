-- The whole screen, for every input: what each of its answers says, of the verdict and of each byte of the marks, and that an answer which says so is the screen's.
use mathlib.Core.Path.{◌≡◌, refl, ap, sym, subst, subst⁻¹, ◌∙◌}
use mathlib.Core.Logic.{◌⊎◌, inl, inr, ◌↔◌}
use mathlib.Core.List.{List}
use Prim.Native.Nat.{ℕ, ◌+◌}
use lib.ListN.{get_or, replicate}
use Rattle.routine.specs.declared.ScreenRefusal.{ScreenRefusal}
use Rattle.routine.specs.Verdict.{Verdict}
use Rattle.std.specs.Prelude.{Ok, Err}
use Rattle.routine.specs.declared.Finding.TheVariants.{BeforeWalk, At}
use Rattle.routine.specs.Rules.{Start, Rules}
use Rattle.routine.specs.Screen.{marks_of, marks_after, verdict, Screened, screen}
use Rattle.routine.proofs.Marks.{MarkOf, each_mark}
use Rattle.routine.proofs.Findings.{Finding, Shows}
use Rattle.routine.proofs.Exactly.{verdict_shows}
use Rattle.routine.proofs.Before.{window, Early, Admitted, early_or_admitted, refuses, admits}
use Rattle.routine.proofs.Decided.{decided}

module _ (m : List ℕ) (first last : ℕ) (marks : List ℕ) where
  abbrev n : ℕ
  n = window first last

  -- what a verdict and the marks left with it say
  abbrev pub Says : Verdict → List ℕ → Type 0
  -- "It passes exactly when none of these applies": each start is marked 1, each other byte 0
  Says (Ok done) left = Admitted m first last marks × Rules m first (first + n) × (left ≡ marks_of m first n)
  -- 1, 4, 5, 6: "marks untouched"
  Says (Err (BeforeWalk r)) left = Early m first last marks r × (left ≡ marks)
  -- 7, 8, 9, 10: "marks all 0", and the address
  Says (Err (At r a)) left = Admitted m first last marks × Finding m first (first + n) r a.0 × (left ≡ replicate n 0)

  pub screen_says : Says (screen m first last marks).verdict (screen m first last marks).marks
  screen_says = by (early_or_admitted m first last marks)
    where
      after_walk : Admitted m first last marks → (v : Verdict) → Shows m first (first + n) (Rules m first (first + n)) v → Says v (marks_after v m first n)
      after_walk ok (Ok done) rules = (ok, rules, refl)
      after_walk ok (Err (BeforeWalk r)) none = absurd none
      after_walk ok (Err (At r a)) finding = (ok, finding, refl)

      by : ((r : ScreenRefusal) × Early m first last marks r) ⊎ Admitted m first last marks → Says (screen m first last marks).verdict (screen m first last marks).marks
      by (inl early) = subst⁻¹ (λ (s : Screened). Says s.verdict s.marks) (refuses m first last marks early.1) (early.1, refl)
      by (inr ok) = subst⁻¹ (λ (s : Screened). Says s.verdict s.marks) (admits m first last marks ok) (after_walk ok (verdict m first n) (verdict_shows m first n))

  walked : Admitted m first last marks → (v : Verdict) → Shows m first (first + n) (Rules m first (first + n)) v → (left : List ℕ) → left ≡ marks_after v m first n → screen m first last marks ≡ record { verdict = v; marks = left }
  walked ok v shown left e =
      admits m first last marks ok
      ∙ ap {B = Screened} (λ (w : Verdict). record { verdict = w; marks = marks_after w m first n }) (decided m first n v shown)
      ∙ ap {B = Screened} (λ (l : List ℕ). record { verdict = v; marks = l }) (sym e)

  -- an answer that says so is the screen's, so any two are the same
  pub only_answer : (v : Verdict) (left : List ℕ) → Says v left → screen m first last marks ≡ record { verdict = v; marks = left }
  only_answer (Ok done) left (ok, rules, e) = walked ok (Ok done) rules left e
  only_answer (Err (BeforeWalk r)) left (early, e) = refuses m first last marks early ∙ ap {B = Screened} (λ (l : List ℕ). record { verdict = Err (BeforeWalk r); marks = l }) (sym e)
  only_answer (Err (At r a)) left (ok, finding, e) = walked ok (Err (At r a)) finding left e

  pub answers_agree : (v w : Verdict) (left other : List ℕ) → Says v left → Says w other → (v ≡ w) × (left ≡ other)
  answers_agree v w left other p q =
      let same : ◌≡◌ {A = Screened} (record { verdict = v; marks = left }) (record { verdict = w; marks = other }) = sym (only_answer v left p) ∙ only_answer w other q in
      (ap (λ (s : Screened). s.verdict) same, ap (λ (s : Screened). s.marks) same)

  pub when_passed : (screen m first last marks).verdict ≡ Ok tt → Says (Ok tt) (screen m first last marks).marks
  when_passed e = subst (λ (v : Verdict). Says v (screen m first last marks).marks) e screen_says

  -- "It passes exactly when none of these applies", with the four tests before the walk
  pub passes_exactly : ((screen m first last marks).verdict ≡ Ok tt) ↔ (Admitted m first last marks × Rules m first (first + n))
  passes_exactly = (
    λ e. let (ok, rules, left) = when_passed e in (ok, rules),
    λ h. ap (λ (s : Screened). s.verdict) (only_answer (Ok tt) (marks_of m first n) (h.0, h.1, refl)),
  )

  -- and then "each start is marked 1, each other byte 0"
  pub passed_marks : (screen m first last marks).verdict ≡ Ok tt → (i : ℕ) → MarkOf (Start m first (first + n) (first + i)) (get_or (screen m first last marks).marks i 0)
  passed_marks e i = subst⁻¹ (λ (l : List ℕ). MarkOf (Start m first (first + n) (first + i)) (get_or l i 0)) (when_passed e).2 (each_mark m first n i)
