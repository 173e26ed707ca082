-- The M-cycles of each instruction form after its first fetch, as the reference counts them, and whether it jumps.
use Rattle.std.proofs.Common.{if◌then◌else◌}
use mathlib.Core.Bool.{Bool, true, false}
use Prim.Native.Nat.{ℕ, suc}
use Rattle.opcodes.specs.Arithmetic.{holds}
use Rattle.opcodes.specs.Instruction.{Work, NOP, DI, LD-r8-r8, LD-r8-n8, LD-r16-n16, LD-[r16]-A, LD-A-[r16], LD-[n16]-A, LD-A-[n16], LDH-[n8]-A, LDH-A-[n8], LDH-[C]-A, LDH-A-[C], LD-[n16]-SP, LD-SP-HL, LD-HL-SP+e8, ADD-SP-e8, ALU-A-r8, ALU-A-n8, ACC, INC-r8, DEC-r8, INC-r16, DEC-r16, ADD-HL-r16, PUSH-r16, POP-r16}
use Rattle.opcodes.specs.Instruction.{Jump, JP-n16, JP-HL, JR-e8, CALL-n16, RET, RETI, JP-cc-n16, JR-cc-e8, CALL-cc-n16, RET-cc, RST-vec}
use Rattle.opcodes.specs.Instruction.{Instruction, does, goes, CB-prefix, HALT, STOP, EI, LD-B-B, ILLEGAL, Prefixed, SHIFT-r8, BIT-u3-r8, RES-u3-r8, SET-u3-r8, decode_cb}
use Rattle.definition.proofs.Ends.{plus_hl}

abbrev pub work_cycles : Work → ℕ
work_cycles NOP = 0
work_cycles DI = 0
work_cycles (LD-r8-r8 to from) = plus_hl from (plus_hl to 0)
work_cycles (LD-r8-n8 to) = suc (plus_hl to 0)
work_cycles (LD-r16-n16 to) = 2
work_cycles (LD-[r16]-A p) = 1
work_cycles (LD-A-[r16] p) = 1
work_cycles LD-[n16]-A = 3
work_cycles LD-A-[n16] = 3
work_cycles LDH-[n8]-A = 2
work_cycles LDH-A-[n8] = 2
work_cycles LDH-[C]-A = 1
work_cycles LDH-A-[C] = 1
work_cycles LD-[n16]-SP = 4
work_cycles LD-SP-HL = 1
work_cycles LD-HL-SP+e8 = 2
work_cycles ADD-SP-e8 = 3
work_cycles (ALU-A-r8 op r) = plus_hl r 0
work_cycles (ALU-A-n8 op) = 1
work_cycles (ACC op) = 0
work_cycles (INC-r8 r) = plus_hl r (plus_hl r 0)
work_cycles (DEC-r8 r) = plus_hl r (plus_hl r 0)
work_cycles (INC-r16 r) = 1
work_cycles (DEC-r16 r) = 1
work_cycles (ADD-HL-r16 r) = 1
work_cycles (PUSH-r16 r) = 3
work_cycles (POP-r16 r) = 2

-- taken or not
abbrev pub jump_cycles : Bool → Jump → ℕ
jump_cycles t JP-n16 = 3
jump_cycles t JP-HL = 0
jump_cycles t JR-e8 = 2
jump_cycles t CALL-n16 = 5
jump_cycles t RET = 3
jump_cycles t RETI = 3
jump_cycles t (JP-cc-n16 c) = if t then 3 else 2
jump_cycles t (JR-cc-e8 c) = if t then 2 else 1
jump_cycles t (CALL-cc-n16 c) = if t then 5 else 2
jump_cycles t (RET-cc c) = if t then 4 else 1
jump_cycles t (RST-vec v) = 3

-- after both fetches
abbrev pub prefixed_cycles : Prefixed → ℕ
prefixed_cycles (SHIFT-r8 op r) = plus_hl r (plus_hl r 0)
prefixed_cycles (BIT-u3-r8 n r) = plus_hl r 0
prefixed_cycles (RES-u3-r8 n r) = plus_hl r (plus_hl r 0)
prefixed_cycles (SET-u3-r8 n r) = plus_hl r (plus_hl r 0)

-- of the whole instruction, where the second byte and what follows it come to `after` once CB was fetched
abbrev pub cycles_with : Bool → Instruction → ℕ → ℕ
cycles_with t (does w) after = work_cycles w
cycles_with t (goes j) after = jump_cycles t j
cycles_with t CB-prefix after = after
cycles_with t HALT after = 0
cycles_with t STOP after = 0
cycles_with t EI after = 0
cycles_with t LD-B-B after = 0
cycles_with t ILLEGAL after = 0

-- with the byte after the first, which counts after CB
abbrev pub cycles_of : Bool → Instruction → ℕ → ℕ
cycles_of t i x = cycles_with t i (suc (prefixed_cycles (decode_cb x)))

-- whether it jumps at the flags f: its condition holds, or it has none

abbrev pub takes : Jump → ℕ → Bool
takes JP-n16 f = true
takes JP-HL f = true
takes JR-e8 f = true
takes CALL-n16 f = true
takes RET f = true
takes RETI f = true
takes (JP-cc-n16 c) f = holds c f
takes (JR-cc-e8 c) f = holds c f
takes (CALL-cc-n16 c) f = holds c f
takes (RET-cc c) f = holds c f
takes (RST-vec v) f = true

abbrev pub jumps : Instruction → ℕ → Bool
jumps (does w) f = false
jumps (goes j) f = takes j f
jumps CB-prefix f = false
jumps HALT f = false
jumps STOP f = false
jumps EI f = false
jumps LD-B-B f = false
jumps ILLEGAL f = false
