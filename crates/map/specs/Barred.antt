-- Refusal 7 by name: which of the instructions that a routine must not hold an instruction is.
use Rattle.std.specs.Prelude.{Option, Some, None}
use Rattle.opcodes.specs.Instruction.{Jump, JP-n16, JP-HL, JR-e8, CALL-n16, RET, RETI, JP-cc-n16, JR-cc-e8, CALL-cc-n16, RET-cc, RST-vec}
use Rattle.opcodes.specs.Instruction.{Instruction, does, goes, CB-prefix, HALT, STOP, EI, LD-B-B, ILLEGAL}
use Rattle.map.specs.declared.barred.Barred.{Barred}
use Rattle.map.specs.declared.barred.Barred.TheVariants.{Illegal, Stop, Halt, Ei, Reti, JpHl, Call, Rst}

abbrev pub barred_jump : Jump → Option Barred
barred_jump JP-n16 = None
barred_jump JP-HL = Some JpHl
barred_jump JR-e8 = None
barred_jump CALL-n16 = Some Call
barred_jump RET = None
barred_jump RETI = Some Reti
barred_jump (JP-cc-n16 c) = None
barred_jump (JR-cc-e8 c) = None
barred_jump (CALL-cc-n16 c) = Some Call
barred_jump (RET-cc c) = None
barred_jump (RST-vec v) = Some Rst

-- "the eleven of refusal 3, STOP, HALT, EI, RETI, JP HL, every CALL and RST"
abbrev pub barred_of : Instruction → Option Barred
barred_of (does w) = None
barred_of (goes j) = barred_jump j
barred_of CB-prefix = None
barred_of HALT = Some Halt
barred_of STOP = Some Stop
barred_of EI = Some Ei
barred_of LD-B-B = None
barred_of ILLEGAL = Some Illegal
