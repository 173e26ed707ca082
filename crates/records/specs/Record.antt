-- The layout of a record: where its parts stand, and what they say. Words stand low byte first.
use Rattle.std.specs.Prelude.{ℕ, ◌+◌, ◌*◌, List, replicate}
use Rattle.definition.specs.Bus.{byte_at}
use Rattle.blocks.specs.Bytes.{word_at}
use Rattle.records.specs.Bytes.{patched}

-- The head, of every record: 0-1 the record's length, its kind (0 a step, 1 a run, 2 a window), how long its name is, the length of memory
-- (three bytes), how many bytes of it are listed, how many of them change (a window: how many marks), the budget (a window: its first
-- address), a window's last address. At the end of a record stands its name.

abbrev pub kind_at : ℕ
kind_at = 2

abbrev pub name_length_at : ℕ
name_length_at = 3

abbrev pub memory_length_at : ℕ
memory_length_at = 4

abbrev pub listed_at : ℕ
listed_at = 7

abbrev pub changed_at : ℕ
changed_at = 9

abbrev pub budget_at : ℕ
budget_at = 11

abbrev pub first_at : ℕ
first_at = 11

abbrev pub last_at : ℕ
last_at = 13

abbrev pub head_size : ℕ
head_size = 15

-- A step or a run: the state, the state after it, the answer block, the listed bytes, those that change.

abbrev pub state_at : ℕ
state_at = 15

abbrev pub after_at : ℕ
after_at = 39

abbrev pub answer_at : ℕ
answer_at = 63

abbrev pub bytes_at : ℕ
bytes_at = 87

-- A window: the answer block, the marks, the marks after it, the listed bytes.

abbrev pub verdict_at : ℕ
verdict_at = 15

abbrev pub marks_at : ℕ
marks_at = 19

-- What stands there.

abbrev pub kind_of : List ℕ → ℕ
kind_of r = byte_at r kind_at

abbrev pub name_length : List ℕ → ℕ
name_length r = byte_at r name_length_at

abbrev pub memory_length : List ℕ → ℕ
memory_length r = word_at r memory_length_at + 65536 * byte_at r (memory_length_at + 2)

abbrev pub listed : List ℕ → ℕ
listed r = word_at r listed_at

abbrev pub changed : List ℕ → ℕ
changed r = word_at r changed_at

-- where those bytes of a step or a run stand that change: behind the listed ones, of three bytes each
abbrev pub changes_at : List ℕ → ℕ
changes_at r = bytes_at + 3 * listed r

-- Memory: all 0 but for the listed bytes, which stand at an offset.
abbrev pub memory_from : List ℕ → ℕ → ℕ → List ℕ
memory_from r at size = patched r at (listed r) (replicate size 0)
