-- How many instructions the marks of a window show, and how many of these are jumps.
use Rattle.std.specs.Prelude.{Bool, ◌&&◌, List, ℕ, zero, suc, ◌+◌, ◌%◌, eqb, get_or, length}
use Rattle.sm83.specs.Basics.{bit}
use Rattle.definition.specs.Bus.{byte_at}
use Rattle.map.specs.Opcode.{is_jump}
use Rattle.map.specs.declared.tally.Counts.{Counts}

-- the byte at an index of the window: addresses wrap at 65,536
abbrev pub byte_in : List ℕ → ℕ → ℕ → ℕ
byte_in m first i = byte_at m ((first + i) % 65536)

-- "each start is marked 1"
abbrev pub starts_at : List ℕ → ℕ → Bool
starts_at marks i = eqb (get_or marks i 0) 1

abbrev pub jumps_at : List ℕ → ℕ → List ℕ → ℕ → Bool
jumps_at m first marks i = starts_at marks i && is_jump (byte_in m first i)

-- how many of the indexes below n pass the test
unfoldable pub how_many : (ℕ → Bool) → ℕ → ℕ
how_many p zero = 0
how_many p (suc n) = how_many p n + bit (p n)

unfoldable pub counts_of : List ℕ → ℕ → List ℕ → Counts
counts_of m first marks = record { instructions = how_many (starts_at marks) (length marks); jumps = how_many (jumps_at m first marks) (length marks) }
