-- A word as it can be shown on a terminal: a byte that a terminal would obey is written as \x1B is, every other as it is.
use Rattle.std.specs.Prelude.{Bool, ◌&&◌, ◌||◌, List, [], ◌∷◌, ◌++◌, ℕ, eqb, ltb}
use Rattle.text.specs.Page.{choose}
use Rattle.text.specs.Hex.{hex2}

-- control characters: below 32, 127, and in UTF-8 the bytes 80 to 9F behind C2 (194)
unfoldable pub obeyed : ℕ → ℕ → Bool
obeyed before b = (ltb b 32 || eqb b 127) || (eqb before 194 && (ltb 127 b && ltb b 160))

-- \x and the byte in hexadecimal
abbrev pub coded : ℕ → List ℕ
coded b = 92 ∷ 120 ∷ hex2 b

unfoldable pub shown_byte : ℕ → ℕ → List ℕ
shown_byte before b = choose (obeyed before b) (coded b) (b ∷ [])

unfoldable pub shown_from : ℕ → List ℕ → List ℕ
shown_from before [] = []
shown_from before (b ∷ bs) = shown_byte before b ++ shown_from b bs

abbrev pub shown : List ℕ → List ℕ
shown word = shown_from 0 word
