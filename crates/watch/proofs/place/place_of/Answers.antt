-- Shows the last arm, which the check does not find alone, by a computed test over all 256 bytes: no byte there is a single number of another arm.
use Rattle.std.proofs.Common.{Option}
use mathlib.Core.Path.{◌≡◌, refl}
use mathlib.Core.Bool.{not}
use mathlib.Core.List.{List}
use Prim.Native.Nat.{ℕ, ◌<◌}
use native.Mathlib.Omega.{arith}
use Rattle.opcodes.specs.Instruction.{decode}
use Rattle.screen.proofs.class.Arms.{arms_of, Right, Rest, is_single, by_range}
use Rattle.watch.specs.declared.place.Place.{Place}
use Rattle.watch.specs.Places.{place_of}
use Rattle.watch.proofs.place.place_of.Code.Mir as code
use Rattle.watch.proofs.place.place_of.Goals as goal

abbrev table : ℕ → Option Place
table b = place_of (decode b)

abbrev arms : List (List ℕ)
arms = arms_of (code.function).body

elsewhere : (p : Option Place) → Right table 256 (λ b. not (is_single arms b)) p → (b : ℕ) → b < 256 → Rest (Unit {0}) arms b → p ≡ table b
elsewhere = by_range table 256 arms

pub returns-in_default : goal.returns-in_default
unfolding decode
returns-in_default c = elsewhere _ refl c.args.opcode (omega arith) c.in_default.in_default-own.rest
