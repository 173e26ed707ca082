-- The window of a record, screened: what agreeing means, value by value.
use Rattle.std.proofs.Common.{◌≡◌, ℕ, Bool, true, false, eqb, List, length, refl, ap, ◌∙◌, ap₂, eqb-true, if◌then◌else◌}
use Rattle.std.specs.Prelude.{bytes_eq}
use Rattle.library.specs.Screened.{LeftByScreen, left_by_screen}
use Rattle.records.specs.Record.{memory_length}
use lib.Pointwise.{bytes_decides}
use Rattle.std.proofs.lemmas.Bool.{and_parts}
use Rattle.replay.specs.Window.{window_size, asked_screen, told_screen, same_screen, agrees_window}

same_screen_lem : (a b : LeftByScreen) → same_screen a b ≡ true → a ≡ b
same_screen_lem a b h =
    let numbers = and_parts (eqb a.number b.number) _ h in
    let others = and_parts (bytes_eq a.marks b.marks) _ numbers.1 in
    ap (λ (n : ℕ). left_by_screen n a.marks a.answer) (eqb-true _ _ numbers.0)
    ∙ ap₂ (λ (m w : List ℕ). left_by_screen b.number m w) ((bytes_decides _ _).0 others.0) ((bytes_decides _ _).0 others.1)

pub chosen : (t b : Bool) → (if t then b else false) ≡ true → b ≡ true
chosen true b h = h
chosen false true h = refl
chosen false false h = h

pub window_means : (r : List ℕ) → agrees_window r ≡ true → asked_screen r (memory_length r) ≡ told_screen r
unfolding agrees_window
window_means r h = same_screen_lem (asked_screen r (memory_length r)) (told_screen r) (chosen (eqb (length r) (window_size r)) (same_screen (asked_screen r (memory_length r)) (told_screen r)) h)
