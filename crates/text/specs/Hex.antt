-- Bytes and words as text.
use Rattle.std.specs.Prelude.{List, [], ◌∷◌, ◌++◌, ℕ, ◌+◌, ◌/◌, ◌%◌, ltb}
use Rattle.text.specs.Page.{choose}

-- the ASCII code of a digit below 16: `0` to `9`, then `A` to `F`
abbrev pub glyph : ℕ → ℕ
glyph d = choose (ltb d 10) (48 + d) (55 + d)

abbrev pub hex2 : ℕ → List ℕ
hex2 b = glyph (b / 16) ∷ glyph (b % 16) ∷ []

abbrev pub hex4 : ℕ → List ℕ
hex4 w = hex2 (w / 256) ++ hex2 (w % 256)
