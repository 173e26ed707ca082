-- Bytes: a part of a list, and bytes written where a list of triples says.
use Rattle.std.specs.Prelude.{ℕ, zero, suc, ◌+◌, ◌-◌, List, take, drop, slice_set}
use Rattle.definition.specs.Bus.{byte_at}
use Rattle.blocks.specs.Bytes.{word_at}

-- from one offset up to, not including, another
abbrev pub part : List ℕ → ℕ → ℕ → List ℕ
part s from to = take (to - from) (drop from s)

-- so many triples from an offset on: an address, low byte first, and the byte that is put there
unfoldable pub patched : List ℕ → ℕ → ℕ → List ℕ → List ℕ
patched r at zero m = m
patched r at (suc n) m = patched r (at + 3) n (slice_set m (word_at r at) (byte_at r (at + 2)))
