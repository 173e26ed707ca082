-- The parts together: the walk and the tests after it; and the tests before them.
use mathlib.Core.Path.{◌≡◌, sym, ap, ◌∙◌}
use mathlib.Core.List.{List, ◌∷◌, map}
use Prim.Native.Nat.{ℕ}
use lib.ListN.{length, replicate}
use Rattle.std.specs.Prelude.{Ok, Err, is_err, if◌then◌else◌}
use Rattle.routine.specs.declared.ScreenRefusal.{ScreenRefusal}
use Rattle.routine.specs.declared.Finding.{Finding}
use Rattle.routine.specs.declared.Finding.TheVariants.{BeforeWalk}
use Rattle.routine.specs.Verdict.{Verdict}
use Rattle.routine.specs.Screen.{scan_for, first_of, tests, marks_of, is_marked, marks_after, verdict, Screened, screen}
use Rattle.routine.proofs.Marks.{marks_length}
use Rattle.routine.proofs.Before.{Early, Admitted, refuses, admits}
use Rattle.screen.specs.Parts.{walked, Finds, Screens}

-- what the tests find, by the marks and the window's length
abbrev found_in : List ℕ → ℕ → List ℕ → ℕ → List Verdict
found_in m first l n = map (scan_for m (is_marked l first) first n) tests

module _ {m : List ℕ} {first n : ℕ} {walk : Verdict} {marks : List ℕ} (w : Finds walked m first n walk marks) where
  by_walk : first_of (walk ∷ found_in m first (marks_of m first n) n) ≡ verdict m first n
  unfolding verdict
  by_walk = ap (λ (v : Verdict). first_of (v ∷ found_in m first (marks_of m first n) n)) w.finding

  -- a finding of the walk is the verdict
  pub walk_decides : {finding : Finding} → walk ≡ Err finding → (found : Verdict) → found ≡ Err finding → Finds verdict m first n found marks
  walk_decides {finding} e found same =
      let told : walk ≡ found = e ∙ sym same in
      record {
        finding = same ∙ ap (λ (v : Verdict). first_of (v ∷ found_in m first (marks_of m first n) n)) (sym e) ∙ by_walk;
        marks = w.marks ∙ ap (λ (v : Verdict). marks_after v m first n) told;
      }

  -- where the walk finds nothing, the tests decide; "marks all 0", unless they pass
  pub tests_decide : walk ≡ Ok tt → (found : Verdict) → found ≡ first_of (found_in m first marks (length marks)) → (left : List ℕ) → left ≡ (if is_err found then replicate (length marks) 0 else marks) → Finds verdict m first n found left
  tests_decide e found told left cleared =
      record {
        finding = told ∙ ap (λ (l : List ℕ). first_of (found_in m first l (length l))) walked_over ∙ ap (λ (k : ℕ). first_of (found_in m first (marks_of m first n) k)) (marks_length m first n) ∙ ap (λ (v : Verdict). first_of (v ∷ found_in m first (marks_of m first n) n)) (sym e) ∙ by_walk;
        marks = cleared ∙ by found;
      }
    where
      walked_over : marks ≡ marks_of m first n
      walked_over = w.marks ∙ ap (λ (v : Verdict). marks_after v m first n) e

      by : (v : Verdict) → (if is_err v then replicate (length marks) 0 else marks) ≡ marks_after v m first n
      by (Ok done) = walked_over
      by (Err finding) = ap (λ (j : ℕ). replicate j 0) (ap length walked_over ∙ marks_length m first n)

module _ (m : List ℕ) (first last : ℕ) (marks : List ℕ) where
  answers : (v : Verdict) (left : List ℕ) → screen m first last marks ≡ record { verdict = v; marks = left } → Screens (screen m first last marks) v left
  answers v left e = record { verdict = sym (ap (λ (s : Screened). s.verdict) e); marks = sym (ap (λ (s : Screened). s.marks) e) }

  -- 1, 4, 5, 6: "marks untouched"
  pub early : {r : ScreenRefusal} → Early m first last marks r → Screens (screen m first last marks) (Err (BeforeWalk r)) marks
  early {r} e = answers (Err (BeforeWalk r)) marks (refuses m first last marks e)

  -- 7, 8, 9, 10: "marks all 0", or none applies
  pub late : Admitted m first last marks → (v : Verdict) (left : List ℕ) → Finds verdict m first (length marks) v left → Screens (screen m first last marks) v left
  late ok v left found =
      answers v left
      (admits m first last marks ok
      ∙ ap {B = Screened} (λ (j : ℕ). record { verdict = verdict m first j; marks = marks_after (verdict m first j) m first j }) (sym ok.marks_size)
      ∙ ap {B = Screened} (λ (u : Verdict). record { verdict = u; marks = marks_after u m first (length marks) }) (sym found.finding)
      ∙ ap {B = Screened} (λ (l : List ℕ). record { verdict = v; marks = l }) (sym found.marks))
