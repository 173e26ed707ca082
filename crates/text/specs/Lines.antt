-- A text of lines: the line with a number, and the number of the line that holds a word.
use Rattle.std.specs.Prelude.{Bool, true, ◌&&◌, List, [], ◌∷◌, ℕ, ◌+◌, ◌-◌, eqb, ltb, Option, Some, None}
use Rattle.std.specs.Int.{from_bool}
use Rattle.std.specs.List.{before_first}
use Rattle.text.specs.Page.{choose}
use Rattle.text.specs.Same.{same_bytes}

-- what stands in front of the first byte below `end`: 11 ends a line, 33 a word
abbrev pub until : ℕ → List ℕ → List ℕ
until end text = before_first (λ b. ltb b end) text

-- 1 for a byte that ends a line
abbrev pub line_end : ℕ → ℕ
line_end b = from_bool (ltb b 11)

-- the text from its line n on, counted from 0
unfoldable pub from_line : ℕ → List ℕ → List ℕ
from_line n [] = []
from_line n (b ∷ bs) = choose (eqb n 0) (b ∷ bs) (from_line (n - line_end b) bs)

-- a line without its end; nothing if there is none
abbrev pub line_of : List ℕ → ℕ → List ℕ
line_of text n = until 11 (from_line n text)

-- a word starts here, and it is this one
unfoldable pub names : Bool → List ℕ → List ℕ → Bool
names starts text word = starts && same_bytes (until 33 text) word

-- the number of the line that holds the word, where the text starts at line n
unfoldable pub number_from : ℕ → Bool → List ℕ → List ℕ → Option ℕ
number_from n starts [] word = None
number_from n starts (b ∷ bs) word = choose (names starts (b ∷ bs) word) (Some (n + 1)) (number_from (n + line_end b) (ltb b 33) bs word)

-- the number of the line that holds the word, counted from 1
abbrev pub number_of : List ℕ → List ℕ → Option ℕ
number_of text word = number_from 0 true text word
