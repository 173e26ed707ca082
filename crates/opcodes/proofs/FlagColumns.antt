-- What each instruction form does to the four flags, in the words of the reference's column.
use Prim.Native.Nat.{ℕ}
use Rattle.opcodes.specs.Instruction.{Stacked, pBC, pDE, pHL, pAF, Alu, ADD, ADC, SUB, SBC, AND, XOR, OR, CP, Acc, RLCA, RRCA, RLA, RRA, DAA, CPL, SCF, CCF, Shift, RLC, RRC, RL, RR, SLA, SRA, SWAP, SRL}
use Rattle.opcodes.specs.Instruction.{Work, NOP, DI, LD-r8-r8, LD-r8-n8, LD-r16-n16, LD-[r16]-A, LD-A-[r16], LD-[n16]-A, LD-A-[n16], LDH-[n8]-A, LDH-A-[n8], LDH-[C]-A, LDH-A-[C], LD-[n16]-SP, LD-SP-HL, LD-HL-SP+e8, ADD-SP-e8, ALU-A-r8, ALU-A-n8, ACC, INC-r8, DEC-r8, INC-r16, DEC-r16, ADD-HL-r16, PUSH-r16, POP-r16}
use Rattle.opcodes.specs.Instruction.{Instruction, does, goes, CB-prefix, HALT, STOP, EI, LD-B-B, ILLEGAL, Prefixed, SHIFT-r8, BIT-u3-r8, RES-u3-r8, SET-u3-r8, decode_cb}
use Rattle.opcodes.specs.Published.{FlagColumn, keep, ZNHC, Z0HC, Z1HC, Z0H-, Z1H-, Z000, Z010, Z01-, Z00C, Z-0C, -0HC, -11-, -001, -00C, 00HC, 000C}

abbrev pub alu_flags : Alu → FlagColumn
alu_flags ADD = Z0HC
alu_flags ADC = Z0HC
alu_flags SUB = Z1HC
alu_flags SBC = Z1HC
alu_flags AND = Z010
alu_flags XOR = Z000
alu_flags OR = Z000
alu_flags CP = Z1HC

abbrev pub acc_flags : Acc → FlagColumn
acc_flags RLCA = 000C
acc_flags RRCA = 000C
acc_flags RLA = 000C
acc_flags RRA = 000C
acc_flags DAA = Z-0C
acc_flags CPL = -11-
acc_flags SCF = -001
acc_flags CCF = -00C

abbrev pub shift_flags : Shift → FlagColumn
shift_flags RLC = Z00C
shift_flags RRC = Z00C
shift_flags RL = Z00C
shift_flags RR = Z00C
shift_flags SLA = Z00C
shift_flags SRA = Z00C
shift_flags SWAP = Z000
shift_flags SRL = Z00C

abbrev pub pop_flags : Stacked → FlagColumn
pop_flags pBC = keep
pop_flags pDE = keep
pop_flags pHL = keep
pop_flags pAF = ZNHC

abbrev pub work_flags : Work → FlagColumn
work_flags NOP = keep
work_flags DI = keep
work_flags (LD-r8-r8 to from) = keep
work_flags (LD-r8-n8 to) = keep
work_flags (LD-r16-n16 to) = keep
work_flags (LD-[r16]-A p) = keep
work_flags (LD-A-[r16] p) = keep
work_flags LD-[n16]-A = keep
work_flags LD-A-[n16] = keep
work_flags LDH-[n8]-A = keep
work_flags LDH-A-[n8] = keep
work_flags LDH-[C]-A = keep
work_flags LDH-A-[C] = keep
work_flags LD-[n16]-SP = keep
work_flags LD-SP-HL = keep
work_flags LD-HL-SP+e8 = 00HC
work_flags ADD-SP-e8 = 00HC
work_flags (ALU-A-r8 op r) = alu_flags op
work_flags (ALU-A-n8 op) = alu_flags op
work_flags (ACC op) = acc_flags op
work_flags (INC-r8 r) = Z0H-
work_flags (DEC-r8 r) = Z1H-
work_flags (INC-r16 r) = keep
work_flags (DEC-r16 r) = keep
work_flags (ADD-HL-r16 r) = -0HC
work_flags (PUSH-r16 r) = keep
work_flags (POP-r16 r) = pop_flags r

abbrev pub prefixed_flags : Prefixed → FlagColumn
prefixed_flags (SHIFT-r8 op r) = shift_flags op
prefixed_flags (BIT-u3-r8 n r) = Z01-
prefixed_flags (RES-u3-r8 n r) = keep
prefixed_flags (SET-u3-r8 n r) = keep

-- of the whole instruction, where the second byte has the column `after` once CB was fetched
abbrev pub flags_with : Instruction → FlagColumn → FlagColumn
flags_with (does w) after = work_flags w
flags_with (goes j) after = keep
flags_with CB-prefix after = after
flags_with HALT after = keep
flags_with STOP after = keep
flags_with EI after = keep
flags_with LD-B-B after = keep
flags_with ILLEGAL after = keep

-- with the byte after the first, which counts after CB
abbrev pub flags_of : Instruction → ℕ → FlagColumn
flags_of i x = flags_with i (prefixed_flags (decode_cb x))
