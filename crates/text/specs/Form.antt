-- A form: a text in which some bytes are marks. # $ % & stand for the next value, @ for the word as it can be shown.
use Rattle.std.specs.Prelude.{◌&&◌, List, [], ◌∷◌, ◌++◌, ℕ, ◌+◌, ◌/◌, ◌%◌, eqb, ltb, get_or}
use Rattle.std.specs.Int.{from_bool}
use Rattle.text.specs.Page.{choose}
use Rattle.text.specs.Hex.{hex2, hex4}
use Rattle.text.specs.Digits.{decimal}
use Rattle.text.specs.Shown.{shown}

-- a flag's letter if its bit is set, else -
abbrev pub flag : ℕ → ℕ → List ℕ
flag bit letter = choose (eqb (bit % 2) 1) (letter ∷ []) (45 ∷ [])

-- Z, N, H, C
abbrev pub flags : ℕ → List ℕ
flags f = flag (f / 128) 90 ++ flag (f / 64) 78 ++ flag (f / 32) 72 ++ flag (f / 16) 67

-- what a byte of a form stands for: # four hexadecimal digits, $ two, % a decimal number, & flags, @ the word as it can be shown, any other itself
unfoldable pub meant : ℕ → ℕ → List ℕ → List ℕ
meant b value word =
    choose (eqb b 35) (hex4 (value % 65536))
    (choose (eqb b 36) (hex2 (value % 256))
    (choose (eqb b 37) (decimal value)
    (choose (eqb b 38) (flags value)
    (choose (eqb b 64) (shown word) (b ∷ [])))))

-- 1 for a mark that takes a value
abbrev pub takes : ℕ → ℕ
takes b = from_bool (ltb 34 b && ltb b 39)

-- from the value with number k on; a value that is missing counts as 0
unfoldable pub filled_from : ℕ → List ℕ → List ℕ → List ℕ → List ℕ
filled_from k [] values word = []
filled_from k (b ∷ form) values word = meant b (get_or values k 0) word ++ filled_from (k + takes b) form values word

abbrev pub filled : List ℕ → List ℕ → List ℕ → List ℕ
filled form values word = filled_from 0 form values word
