-- With which last address a window from a first one passes: the nearest above a given one, and the nearest below.
use Rattle.std.specs.Prelude.{Bool, List, ℕ, zero, suc, ◌+◌, ◌-◌, min, replicate, if◌then◌else◌, Option, Some, None, is_ok}
use Rattle.sm83.specs.declared.Addr.{Addr}
use Rattle.sm83.specs.State.{addr}
use Rattle.routine.specs.Screen.{longest_window, screen}

-- the screen passes the window, lent a mark for each of its bytes
abbrev pub would_pass : List ℕ → ℕ → ℕ → Bool
would_pass m first last = is_ok (screen m first last (replicate (suc (last - first)) 0)).verdict

-- the lowest of n last addresses from `at` on
unfoldable pub lowest : List ℕ → ℕ → ℕ → ℕ → Option Addr
lowest m first at zero = None
lowest m first at (suc n) = if would_pass m first at then Some (addr at) else lowest m first (suc at) n

-- the highest of n last addresses from the first address on
unfoldable pub highest : List ℕ → ℕ → ℕ → Option Addr
highest m first zero = None
highest m first (suc n) = if would_pass m first (first + n) then Some (addr (first + n)) else highest m first n

-- above `last`: no window is longer than the longest, and no address is past FFFF
abbrev pub passing_above : List ℕ → ℕ → ℕ → Option Addr
passing_above m first last = lowest m first (last + 1) (min (first + longest_window) 65536 - (last + 1))

-- below `last`, at the first address or above it
abbrev pub passing_below : List ℕ → ℕ → ℕ → Option Addr
passing_below m first last = highest m first (last - first)
