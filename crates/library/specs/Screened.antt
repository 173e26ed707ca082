-- What the screen answers and leaves: the document's number, the marks and the answer block. A malformed block is refused with nothing changed.
use Rattle.std.specs.Prelude.{List, ℕ, eqb, length, if◌then◌else◌}
use Rattle.routine.specs.Numbers.{verdict_number}
use Rattle.routine.specs.Screen.{Screened, screen}
use Rattle.blocks.specs.ScreenBlock.{verdict_bytes}

pub record LeftByScreen : Type 0 where
  pub number : ℕ
  pub marks : List ℕ
  pub answer : List ℕ

abbrev pub left_by_screen : ℕ → List ℕ → List ℕ → LeftByScreen
left_by_screen n marks answer = record { number = n; marks = marks; answer = answer }

unfoldable pub screen_blocks : List ℕ → ℕ → ℕ → List ℕ → List ℕ → LeftByScreen
screen_blocks memory first last marks answer =
    let r : Screened = screen memory first last marks in
    if eqb (length answer) 4 then left_by_screen (verdict_number r.verdict) r.marks (verdict_bytes r.verdict answer) else left_by_screen 255 marks answer
