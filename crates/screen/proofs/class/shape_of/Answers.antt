-- Shows the arms that the check does not find alone, each by a computed test over all 256 bytes: the single numbers by the place of their arm, then the ranges, where a byte is no single number.
use mathlib.Core.Path.{◌≡◌, refl}
use mathlib.Core.Bool.{not}
use mathlib.Core.List.{List, []}
use Prim.Native.Nat.{ℕ, ◌<◌}
use native.Mathlib.Omega.{arith}
use lib.ListN.{get_or}
use mir.Val.{has_key}
use types.Run.{OneOf}
use Rattle.opcodes.specs.Instruction.{decode}
use Rattle.screen.specs.declared.class.Shape.{Shape}
use Rattle.screen.specs.Shapes.{shape_of}
use Rattle.screen.proofs.class.Arms.{arms_of, Right, Rest, is_single, by_number, by_range}
use Rattle.screen.proofs.class.shape_of.Code.Mir as code
use Rattle.screen.proofs.class.shape_of.Goals as goal

abbrev table : ℕ → Shape
table b = shape_of (decode b)

abbrev arms : List (List ℕ)
arms = arms_of (code.function).body

abbrev numbers : ℕ → List ℕ
numbers i = get_or arms i []

of : (i : ℕ) (s : Shape) → Right table 256 (has_key (numbers i)) s → (b : ℕ) → b < 256 → OneOf (numbers i) b → s ≡ table b
of i = by_number table 256 (numbers i)

ranged : (s : Shape) → Right table 256 (λ b. not (is_single arms b)) s → (b : ℕ) → b < 256 → Rest (Unit {0}) arms b → s ≡ table b
ranged = by_range table 256 arms

pub returns-in-1 : goal.returns-in-1
unfolding decode
returns-in-1 c = of 7 _ refl c.args.opcode (omega arith) c.in-1.is

pub returns-in-194 : goal.returns-in-194
unfolding decode
returns-in-194 c = of 9 _ refl c.args.opcode (omega arith) c.in-194.is

pub returns-in-64-to-117 : goal.returns-in-64-to-117
unfolding decode
returns-in-64-to-117 c = ranged _ refl c.args.opcode (omega arith) c.in-64-to-117.in_default-own.rest

pub returns-in-128-to-191 : goal.returns-in-128-to-191
unfolding decode
returns-in-128-to-191 c = ranged _ refl c.args.opcode (omega arith) c.in-128-to-191.in_default-own.rest

pub returns-in-9-to-13-2 : goal.returns-in-9-to-13-2
unfolding decode
returns-in-9-to-13-2 c = ranged _ refl c.args.opcode (omega arith) c.in-9-to-13.in_default-own.rest

pub returns-in-9-to-13-3 : goal.returns-in-9-to-13-3
unfolding decode
returns-in-9-to-13-3 c = ranged _ refl c.args.opcode (omega arith) c.in-9-to-13.in_default-own.rest

pub returns-in-9-to-13-4 : goal.returns-in-9-to-13-4
unfolding decode
returns-in-9-to-13-4 c = ranged _ refl c.args.opcode (omega arith) c.in-9-to-13.in_default-own.rest

pub returns-in-2-to-5-3 : goal.returns-in-2-to-5-3
unfolding decode
returns-in-2-to-5-3 c = ranged _ refl c.args.opcode (omega arith) c.in-2-to-5.in_default-own.rest

pub returns-in-2-to-5-4 : goal.returns-in-2-to-5-4
unfolding decode
returns-in-2-to-5-4 c = ranged _ refl c.args.opcode (omega arith) c.in-2-to-5.in_default-own.rest
