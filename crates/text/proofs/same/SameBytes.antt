-- Two lists are the same bytes exactly when they are equal.
use mathlib.Core.Path.{◌≡◌, refl}
use mathlib.Core.Bool.{Bool, true, false, ◌&&◌}
use mathlib.Core.List.{List}
use Prim.Native.Nat.{ℕ}
use lib.Pointwise.{bytes_decides}
use Rattle.text.specs.Same.{same_bytes}

pub and_first : (a b : Bool) → a && b ≡ true → a ≡ true
and_first true b h = refl
and_first false b h = h

pub and_second : (a b : Bool) → a && b ≡ true → b ≡ true
and_second true b h = h
and_second false b h = cc

pub same_refl : (s : List ℕ) → same_bytes s s ≡ true
same_refl s = (bytes_decides s s).1 refl

pub same_equal : (s t : List ℕ) → same_bytes s t ≡ true → s ≡ t
same_equal s t h = (bytes_decides s t).0 h
