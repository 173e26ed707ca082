-- A number, and how large it can be: what a caller needs to add it up.
use Rattle.std.specs.Prelude.{◌≡◌, ℕ, ◌≤◌}

pub record Within (most said r : ℕ) : Type 0 where
  pub is : r ≡ said
  pub small : r ≤ most
