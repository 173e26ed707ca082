-- What the screen's passes over a window answer, and the marks that they leave.
use Rattle.std.specs.Prelude.{◌≡◌, List, ℕ}
use Rattle.routine.specs.Verdict.{Verdict}
use Rattle.routine.specs.Screen.{walk, marks_after, Screened}

-- the walk over a whole window
abbrev pub walked : List ℕ → ℕ → ℕ → Verdict
walked m first n = walk m first 0 first n

-- what a pass over the window answers, and the marks that it leaves
pub record Finds (says : List ℕ → ℕ → ℕ → Verdict) (m : List ℕ) (first n : ℕ) (r : Verdict) (left : List ℕ) : Type 0 where
  pub finding : r ≡ says m first n
  pub marks : left ≡ marks_after r m first n

-- what the screen answers, and the marks that it leaves
pub record Screens (s : Screened) (r : Verdict) (left : List ℕ) : Type 0 where
  pub verdict : r ≡ s.verdict
  pub marks : left ≡ s.marks
