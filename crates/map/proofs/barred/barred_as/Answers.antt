-- Shows the last arm, which the check does not find alone, by a computed test over all 256 bytes: no byte there is a single number of another arm.
use Rattle.std.proofs.Common.{Option}
use mathlib.Core.Path.{◌≡◌, refl}
use mathlib.Core.Bool.{not}
use mathlib.Core.List.{List}
use Prim.Native.Nat.{ℕ, ◌<◌}
use native.Mathlib.Omega.{arith}
use Rattle.opcodes.specs.Instruction.{decode}
use Rattle.screen.proofs.class.Arms.{arms_of, Right, Rest, is_single, by_range}
use Rattle.map.specs.declared.barred.Barred.{Barred}
use Rattle.map.specs.Barred.{barred_of}
use Rattle.map.proofs.barred.barred_as.Code.Mir as code
use Rattle.map.proofs.barred.barred_as.Goals as goal

abbrev table : ℕ → Option Barred
table b = barred_of (decode b)

abbrev arms : List (List ℕ)
arms = arms_of (code.function).body

any_other : (s : Option Barred) → Right table 256 (λ b. not (is_single arms b)) s → (b : ℕ) → b < 256 → Rest (Unit {0}) arms b → s ≡ table b
any_other = by_range table 256 arms

pub returns-in_default : goal.returns-in_default
unfolding decode
returns-in_default c = any_other _ refl c.args.opcode (omega arith) c.in_default.in_default-own.rest
