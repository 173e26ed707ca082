-- Shows the last arm, which the check does not find alone, by a computed test over all 256 bytes, whatever the flags are.
use mathlib.Core.Path.{◌≡◌, refl}
use mathlib.Core.Bool.{Bool, not}
use mathlib.Core.List.{List}
use Prim.Native.Nat.{ℕ, ◌<◌}
use native.Mathlib.Omega.{arith}
use Rattle.opcodes.specs.Instruction.{decode}
use Rattle.routine.specs.Flow.{returns}
use Rattle.screen.proofs.class.Arms.{arms_of, Right, Rest, is_single, by_range}
use Rattle.watch.proofs.demanded.is_return.Code.Mir as code
use Rattle.watch.proofs.demanded.is_return.Goals as goal

abbrev table : ℕ → ℕ → Bool
table f b = returns (decode b) f

abbrev arms : List (List ℕ)
arms = arms_of (code.function).body

elsewhere : (f : ℕ) (r : Bool) → Right (table f) 256 (λ b. not (is_single arms b)) r → (b : ℕ) → b < 256 → Rest (Unit {0}) arms b → r ≡ table f b
elsewhere f = by_range (table f) 256 arms

pub returns-in_default : goal.returns-in_default
unfolding decode
returns-in_default c = elsewhere c.args.f _ refl c.args.opcode (omega arith) c.in_default.in_default-own.rest
