-- An instruction is allowed exactly when the screen does not forbid it: refusal 7 has a name for each that it refuses, and for no other.
use Rattle.std.proofs.Common.{Option, Some, None}
use mathlib.Core.Path.{◌≡◌, refl}
use mathlib.Core.Bool.{Bool, true, false, not}
use Rattle.opcodes.specs.Instruction.{Jump, JP-n16, JP-HL, JR-e8, CALL-n16, RET, RETI, JP-cc-n16, JR-cc-e8, CALL-cc-n16, RET-cc, RST-vec}
use Rattle.opcodes.specs.Instruction.{Instruction, does, goes, CB-prefix, HALT, STOP, EI, LD-B-B, ILLEGAL}
use Rattle.routine.specs.Flow.{class_of, is_forbidden}
use Rattle.map.specs.declared.barred.Barred.{Barred}
use Rattle.map.specs.Barred.{barred_of}

abbrev pub is_allowed : Option Barred → Bool
is_allowed None = true
is_allowed (Some b) = false

jump : (j : Jump) → is_allowed (barred_of (goes j)) ≡ not (is_forbidden (class_of (goes j)))
jump JP-n16 = refl
jump JP-HL = refl
jump JR-e8 = refl
jump CALL-n16 = refl
jump RET = refl
jump RETI = refl
jump (JP-cc-n16 c) = refl
jump (JR-cc-e8 c) = refl
jump (CALL-cc-n16 c) = refl
jump (RET-cc c) = refl
jump (RST-vec v) = refl

pub named : (i : Instruction) → is_allowed (barred_of i) ≡ not (is_forbidden (class_of i))
named (does w) = refl
named (goes j) = jump j
named CB-prefix = refl
named HALT = refl
named STOP = refl
named EI = refl
named LD-B-B = refl
named ILLEGAL = refl
