-- The same bytes, and as many of them.
use Rattle.std.specs.Prelude.{Bool, List, ℕ, bytes_eq}

abbrev pub same_bytes : List ℕ → List ℕ → Bool
same_bytes = bytes_eq
