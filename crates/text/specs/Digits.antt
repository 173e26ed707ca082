-- Numbers as text.
use Rattle.std.specs.Prelude.{List, [], ◌∷◌, ◌++◌, ℕ, zero, suc, ◌/◌, ◌%◌, ◌^◌, eqb, ltb}
use Rattle.text.specs.Page.{choose}
use Rattle.text.specs.Hex.{glyph}

-- the decimal digit at a power of ten, unless it is a zero in front
unfoldable pub digit_at : ℕ → ℕ → List ℕ
digit_at n scale = choose (eqb scale 1) (glyph (n % 10) ∷ []) (choose (ltb n scale) [] (glyph (n / scale % 10) ∷ []))

-- the last k digits
unfoldable pub digits_below : ℕ → ℕ → List ℕ
digits_below zero n = []
digits_below (suc k) n = digit_at n (10 ^ k) ++ digits_below k n

-- a number below 2^64 has at most twenty
abbrev pub decimal : ℕ → List ℕ
decimal n = digits_below 20 n
