-- The verdict of a window depends on how many marks are lent, and not on what they are; of a window that is the wrong way round not even on that.
use Rattle.std.proofs.Common.{◌≡◌, ℕ, suc, ◌+◌, ◌-◌, ◌<◌, min, Bool, true, false, not, eqb, ltb, List, length, replicate, sym, refl, ap, ◌∙◌, arith, ltb-false, if◌then◌else◌}
use lib.ListN.{length-replicate}
use Rattle.routine.specs.declared.ScreenRefusal.TheVariants.{MemoryLength, WindowReversed, WindowTooLong, MarksLength}
use Rattle.routine.specs.Verdict.{Verdict}
use Rattle.routine.specs.Screen.{Screened, untouched, longest_window, verdict, screen}
use Rattle.phk.specs.Window.{behind}

-- the screen's tests, in their order
abbrev tested : Bool → Bool → Bool → Bool → Screened → List ℕ → Verdict
tested whole reversed long sized s marks =
    (if not whole then untouched MemoryLength marks else
    (if reversed then untouched WindowReversed marks else
    (if long then untouched WindowTooLong marks else
    (if not sized then untouched MarksLength marks else s)))).verdict

same_marks : (sized : Bool) (s : Screened) (marks other : List ℕ) → tested true false false sized s marks ≡ tested true false false sized s other
same_marks true s marks other = refl
same_marks false s marks other = refl

same_verdict : (whole reversed long sized sized' : Bool) (s : Screened) (marks other : List ℕ) → (reversed ≡ false → sized ≡ sized') → tested whole reversed long sized s marks ≡ tested whole reversed long sized' s other
same_verdict false reversed long sized sized' s marks other h = refl
same_verdict true true long sized sized' s marks other h = refl
same_verdict true false true sized sized' s marks other h = refl
same_verdict true false false sized sized' s marks other h = ap (λ (t : Bool). tested true false false t s marks) (h refl) ∙ same_marks sized' s marks other

as_many_marks : (m : List ℕ) (first last : ℕ) (marks : List ℕ) → (ltb last first ≡ false → length marks ≡ suc (last - first)) → (screen m first last marks).verdict ≡ (screen m first last (replicate (suc (last - first)) 0)).verdict
unfolding screen
as_many_marks m first last marks h =
    same_verdict (eqb (length m) 65536) (ltb last first) (ltb longest_window (suc (last - first))) _ _
    (record { verdict = verdict m first (suc (last - first)); marks = _ }) marks (replicate (suc (last - first)) 0)
    (λ e. ap (λ (k : ℕ). eqb k (suc (last - first))) (h e ∙ sym (length-replicate {A = ℕ} (suc (last - first)) 0)))

-- the marks that are lent: one for each byte of the window, from a buffer of 65,536
pub marks_lent : (m : List ℕ) (first last size room n : ℕ) (marks : List ℕ) → first < 65536 → last < 65536 → size ≡ behind last first → 65536 ≡ room → n ≡ min (size + 1) room → n ≡ length marks → (screen m first last marks).verdict ≡ (screen m first last (replicate (suc (last - first)) 0)).verdict
marks_lent m first last size room n marks low high sized roomy taken lent = as_many_marks m first last marks (λ e. omega (arith, ltb-false last first e))
