-- What the screen answers to a record of a window, what the record says of it, and that the two are the same.
use Rattle.std.specs.Prelude.{ℕ, ◌+◌, ◌*◌, Bool, false, ◌&&◌, List, length, replicate, ◌==◌, if◌then◌else◌, bytes_eq}
use Rattle.definition.specs.Bus.{byte_at}
use Rattle.blocks.specs.Bytes.{word_at}
use Rattle.library.specs.Screened.{LeftByScreen, left_by_screen, screen_blocks}
use Rattle.records.specs.Bytes.{part}
use Rattle.records.specs.Record.{first_at, last_at, verdict_at, marks_at, name_length, memory_length, listed, changed, memory_from}

abbrev pub marks_told : List ℕ → ℕ
marks_told r = marks_at + changed r

abbrev pub marks_end : List ℕ → ℕ
marks_end r = marks_at + 2 * changed r

unfoldable pub asked_screen : List ℕ → ℕ → LeftByScreen
asked_screen r size = screen_blocks (memory_from r (marks_end r) size) (word_at r first_at) (word_at r last_at) (part r marks_at (marks_told r)) (replicate 4 0)

unfoldable pub told_screen : List ℕ → LeftByScreen
told_screen r = left_by_screen (byte_at r verdict_at) (part r (marks_told r) (marks_end r)) (part r verdict_at marks_at)

abbrev pub same_screen : LeftByScreen → LeftByScreen → Bool
same_screen a b = a.number == b.number && (bytes_eq a.marks b.marks && bytes_eq a.answer b.answer)

-- a record is as long as its parts say
abbrev pub window_size : List ℕ → ℕ
window_size r = marks_end r + 3 * listed r + name_length r

unfoldable pub agrees_window : List ℕ → Bool
agrees_window r = if length r == window_size r then same_screen (asked_screen r (memory_length r)) (told_screen r) else false
