-- How many bytes or words `phk show` shows, and its columns.
use Rattle.std.specs.Prelude.{ℕ, ◌+◌, ◌%◌, min}

abbrev pub at_most : ℕ → ℕ → ℕ
at_most count most = min count most

-- 16 to a row
abbrev pub next_of16 : ℕ → ℕ
next_of16 column = (column + 1) % 16
