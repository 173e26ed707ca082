-- A lent slice with the next place to write to, and what writing a list of bytes there leaves.
use Rattle.std.specs.Prelude.{◌≡◌, Bool, true, false, List, [], ◌∷◌, ℕ, ◌+◌, ltb, length, set}
use Prim.Native.Char.{code}
use Prim.Native.String.{String}
use Prim.Native.String.{[] as none, ◌∷◌ as ◌then◌}

pub record Page : Type 0 where
  pub at : ℕ
  pub bytes : List ℕ

abbrev pub page : ℕ → List ℕ → Page
page at bytes = record { at = at; bytes = bytes }

abbrev pub choose : {A : Type 0} → Bool → A → A → A
choose true a b = a
choose false a b = b

-- one byte at the next place, if there is room
unfoldable pub put_byte : Page → ℕ → Page
put_byte p b = choose (ltb p.at (length p.bytes)) (page (p.at + 1) (set p.bytes p.at b)) p

-- one after the other: what does not fit is left out
abbrev pub written : Page → List ℕ → Page
written p [] = p
written p (b ∷ bs) = written (put_byte p b) bs

-- the page after is the page before with these bytes written
pub record Wrote (before : Page) (bytes : List ℕ) (after : Page) : Type 0 where
  pub is : after ≡ written before bytes

-- a text as its bytes
abbrev pub ascii : String → List ℕ
ascii none = []
ascii (c then s) = code c ∷ ascii s
