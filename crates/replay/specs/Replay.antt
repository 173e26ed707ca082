-- When the core agrees with a record, and how many records of a sample it does not agree with.
use Rattle.std.specs.Prelude.{ℕ, zero, suc, ◌+◌, ◌*◌, Bool, false, not, leb, List, length, take, drop, ◌==◌, nat_eq, nat_le, if◌then◌else◌}
use Rattle.sm83.specs.Basics.{bit}
use Rattle.blocks.specs.Bytes.{word_at}
use Rattle.records.specs.Record.{head_size, kind_of, name_length, memory_length, changed, changes_at}
use Rattle.records.specs.Front.{front_size}
use Rattle.replay.specs.Told.{asked, told, same_left}
use Rattle.replay.specs.Window.{agrees_window}

-- the longest memory that a record may ask for
abbrev pub most_memory : ℕ
most_memory = 131072

-- a record is as long as its parts say
abbrev pub run_size : List ℕ → ℕ
run_size r = changes_at r + 3 * changed r + name_length r

unfoldable pub agrees_run : List ℕ → Bool
agrees_run r = if length r == run_size r then same_left (asked r (memory_length r)) (told r (memory_length r)) else false

unfoldable pub agrees : List ℕ → Bool
agrees r =
    if leb head_size (length r) then
    (if leb (memory_length r) most_memory then
    (if leb (kind_of r) 1 then agrees_run r
    else (if nat_eq (kind_of r) 2 then agrees_window r else false)) else false) else false

-- A sample: how many records it holds, two bytes, and the records one after the other.

-- how many of so many records the core does not agree with; one that is not whole ends the count, and so does a rest behind the last
unfoldable pub differing : ℕ → List ℕ → ℕ
differing zero s = if length s == 0 then 0 else 1
differing (suc n) s = if front_size s == 0 then 1 else bit (not (agrees (take (front_size s) s))) + differing n (drop (front_size s) s)

abbrev pub differs : List ℕ → ℕ
differs s = if nat_le 2 (length s) then differing (word_at s 0) (drop 2 s) else 1
