-- The record at the front of a sample.
use Rattle.std.specs.Prelude.{ℕ, leb, List, length, nat_le, if◌then◌else◌}
use Rattle.blocks.specs.Bytes.{word_at}

-- the length of the record at the front, as its first two bytes say; 0 if no whole record stands there
abbrev pub front_size : List ℕ → ℕ
front_size s = if nat_le 2 (length s) then (if leb (word_at s 0) (length s) then word_at s 0 else 0) else 0
