-- The row on either side of 5, by the laws of the tests before the walk, which name the definition's limit.
use mathlib.Core.Path.{◌≡◌}
use mathlib.Core.List.{List}
use Prim.Native.Nat.{ℕ, ◌≤◌}
use lib.ListN.{length}
use Rattle.routine.specs.declared.ScreenRefusal.TheVariants.{WindowTooLong}
use Rattle.std.specs.Prelude.{Err}
use Rattle.routine.specs.declared.Finding.TheVariants.{BeforeWalk}
use Rattle.routine.specs.Screen.{untouched, screen}
use Rattle.routine.proofs.Before.{window, never_5, always_5}
use Rattle.rows.specs.Rows.{let_in, too_long}

module _ (m : List ℕ) (first last : ℕ) (marks : List ℕ) where
  pub let_in_lem : window first last ≡ let_in → (screen m first last marks).verdict ≡ Err (BeforeWalk WindowTooLong) → ⊥
  let_in_lem = never_5 m first last marks

  pub too_long_lem : length m ≡ 65536 → first ≤ last → window first last ≡ too_long → screen m first last marks ≡ untouched WindowTooLong marks
  too_long_lem = always_5 m first last marks
