-- What the loop of a run needs of the memory behind the code's, whichever it is; and that plain memory gives it.
use mathlib.Core.Path.{◌≡◌, refl}
use mathlib.Core.List.{List}
use Prim.Native.Nat.{ℕ}
use lib.ListN.{length}
use Rattle.definition.specs.Bus.{Bus}
use Rattle.ranges.proofs.Ranges.{Sized, Lawful, Bytes, plain_sized, plain_lawful}
use Rattle.bus.specs.World.{behind}
use Rattle.bus.proofs.Following.{Follows, SameBytes, follows_behind}

pub record Behind (b : Bus (List ℕ)) : Type 0 where
  -- the code's memory follows it
  pub follows : Follows b SameBytes
  -- it is as long as its bytes, and stays so
  pub size : (m : List ℕ) → b.size m ≡ length m
  pub sized : Sized b
  -- it shows bytes, and stays a memory of bytes
  pub lawful : Lawful b Bytes

pub stands_behind : Behind behind
stands_behind = record { follows = follows_behind; size = λ m. refl; sized = plain_sized; lawful = plain_lawful }
