-- Numbers as bytes, all words low byte first, and a block with bytes written over its front.
use Rattle.std.specs.Prelude.{List, [], ◌∷◌, ◌++◌, ℕ, ◌+◌, ◌*◌, ◌/◌, ◌%◌, eqb, length, drop, if◌then◌else◌}
use Rattle.sm83.specs.Basics.{word, high_byte, low_byte}
use Rattle.definition.specs.Bus.{byte_at}

-- a word: two bytes
abbrev pub word_bytes : ℕ → List ℕ
word_bytes w = low_byte w ∷ high_byte w ∷ []

abbrev pub word_at : List ℕ → ℕ → ℕ
word_at block at = word (byte_at block (at + 1)) (byte_at block at)

-- a count of M-cycles: two words, the low one first
abbrev pub count_bytes : ℕ → List ℕ
count_bytes n = word_bytes (n % 65536) ++ word_bytes (n / 65536)

abbrev pub count_at : List ℕ → ℕ → ℕ
count_at block at = word_at block (at + 2) * 65536 + word_at block at

-- a block of `size` bytes begins with these bytes and keeps what stands behind them; a block of any other length is left alone
abbrev pub filled : ℕ → List ℕ → List ℕ → List ℕ
filled size bytes block = if eqb (length block) size then bytes ++ drop (length bytes) block else block
