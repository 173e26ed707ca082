-- Where control may go from the instruction at an address, read off the bytes.
use Rattle.std.specs.Prelude.{Bool, true, false, List, ℕ, ◌+◌}
use Rattle.sm83.specs.Basics.{word, offset, next}
use Rattle.definition.specs.Bus.{byte_at}
use Rattle.opcodes.specs.Arithmetic.{holds}
use Rattle.opcodes.specs.Instruction.{Jump, JP-n16, JP-HL, JR-e8, CALL-n16, RET, RETI, JP-cc-n16, JR-cc-e8, CALL-cc-n16, RET-cc, RST-vec}
use Rattle.opcodes.specs.Instruction.{Instruction, does, goes, CB-prefix, HALT, STOP, EI, LD-B-B, ILLEGAL, decode, operands}
use Rattle.routine.specs.declared.Class.{Class}
use Rattle.routine.specs.declared.Class.TheVariants.{Basic, Barred, Return, ReturnIf, Absolute, AbsoluteIf, Relative, RelativeIf, Call, CallIf}

-- "Length and class are decided by ranges of the opcode byte": the class of an instruction
abbrev pub class_of_jump : Jump → Class
class_of_jump JP-n16 = Absolute
class_of_jump JP-HL = Barred
class_of_jump JR-e8 = Relative
class_of_jump CALL-n16 = Call
class_of_jump RET = Return
class_of_jump RETI = Barred
class_of_jump (JP-cc-n16 c) = AbsoluteIf
class_of_jump (JR-cc-e8 c) = RelativeIf
class_of_jump (CALL-cc-n16 c) = CallIf
class_of_jump (RET-cc c) = ReturnIf
class_of_jump (RST-vec v) = Barred

abbrev pub class_of : Instruction → Class
class_of (does w) = Basic
class_of (goes j) = class_of_jump j
class_of CB-prefix = Basic
class_of HALT = Barred
class_of STOP = Barred
class_of EI = Barred
class_of LD-B-B = Basic
class_of ILLEGAL = Barred

abbrev pub instruction_at : List ℕ → ℕ → Instruction
instruction_at m a = decode (byte_at m a)

abbrev pub class_at : List ℕ → ℕ → Class
class_at m a = class_of (instruction_at m a)

-- the address past an instruction
abbrev pub past : List ℕ → ℕ → ℕ
past m a = a + 1 + operands (instruction_at m a)

-- "Forbidden: the eleven of refusal 3, STOP, HALT, EI, RETI, JP HL, every CALL and RST." (02, request 7 lets CALL through: the last two lines.)
abbrev pub is_forbidden : Class → Bool
is_forbidden Basic = false
is_forbidden Barred = true
is_forbidden Return = false
is_forbidden ReturnIf = false
is_forbidden Absolute = false
is_forbidden AbsoluteIf = false
is_forbidden Relative = false
is_forbidden RelativeIf = false
is_forbidden Call = true
is_forbidden CallIf = true

-- "the last instruction must be an unconditional JP, JR or RET"
abbrev pub ends_routine : Class → Bool
ends_routine Basic = false
ends_routine Barred = false
ends_routine Return = true
ends_routine ReturnIf = false
ends_routine Absolute = true
ends_routine AbsoluteIf = false
ends_routine Relative = true
ends_routine RelativeIf = false
ends_routine Call = false
ends_routine CallIf = false

-- the same with the addresses: on to the next instruction; nowhere; back to the caller, or on; to an address, or on; into a routine, or on
pub data Flow : Type 0 where
  Next Nowhere Leaves LeavesOrNext : Flow
  GoesTo GoesToOrNext Calls CallsOrNext : ℕ → Flow

-- from a, with the two bytes after the opcode. "A JR target counts from the byte after the JR, modulo 65,536."
abbrev pub flow_of : Class → ℕ → ℕ → ℕ → Flow
flow_of Basic a x y = Next
flow_of Barred a x y = Nowhere
flow_of Return a x y = Leaves
flow_of ReturnIf a x y = LeavesOrNext
flow_of Absolute a x y = GoesTo (word y x)
flow_of AbsoluteIf a x y = GoesToOrNext (word y x)
flow_of Relative a x y = GoesTo (offset (a + 2) x)
flow_of RelativeIf a x y = GoesToOrNext (offset (a + 2) x)
flow_of Call a x y = Calls (word y x)
flow_of CallIf a x y = CallsOrNext (word y x)

unfoldable pub flow_at : List ℕ → ℕ → Flow
flow_at m a = flow_of (class_at m a) a (byte_at m (next a)) (byte_at m (next (next a)))

-- "JP or JR, conditional or not, to an unmarked address": where it jumps, if it does, passes the test
abbrev pub jumps_where : (ℕ → Bool) → Flow → Bool
jumps_where p Next = true
jumps_where p Nowhere = true
jumps_where p Leaves = true
jumps_where p LeavesOrNext = true
jumps_where p (GoesTo t) = p t
jumps_where p (GoesToOrNext t) = p t
jumps_where p (Calls t) = true
jumps_where p (CallsOrNext t) = true

-- "A return that isn't taken doesn't end its run": a return that is taken at the flags f
abbrev pub jump_returns : Jump → ℕ → Bool
jump_returns JP-n16 f = false
jump_returns JP-HL f = false
jump_returns JR-e8 f = false
jump_returns CALL-n16 f = false
jump_returns RET f = true
jump_returns RETI f = true
jump_returns (JP-cc-n16 c) f = false
jump_returns (JR-cc-e8 c) f = false
jump_returns (CALL-cc-n16 c) f = false
jump_returns (RET-cc c) f = holds c f
jump_returns (RST-vec v) f = false

abbrev pub returns : Instruction → ℕ → Bool
returns (does w) f = false
returns (goes j) f = jump_returns j f
returns CB-prefix f = false
returns HALT f = false
returns STOP f = false
returns EI f = false
returns LD-B-B f = false
returns ILLEGAL f = false
