-- The row of 001's tables for each instruction of the definition: an operation, where its operand comes from and where its result goes.
-- "An operand whose kind `exec_instruction` doesn't need is `Implied`."
use Rattle.instruction.specs.declared.Condition.{Condition}
use Rattle.instruction.specs.declared.Condition.TheVariants as cn
use Rattle.instruction.specs.declared.OperandType.{OperandType}
use Rattle.instruction.specs.declared.OperandType.TheVariants as ot
use Rattle.instruction.specs.declared.Opcode.{Opcode}
use Rattle.instruction.specs.declared.Opcode.TheVariants as op
use Rattle.instruction.specs.declared.Instruction.{Instruction}
use Rattle.opcodes.specs.Instruction.{Reg8, rB, rC, rD, rE, rH, rL, [HL], rA, Reg16, rBC, rDE, rHL, rSP, Stacked, pBC, pDE, pHL, pAF, Pointer, [BC], [DE], [HL+], [HL-], Cond, c_nz, c_z, c_nc, c_c}
use Rattle.opcodes.specs.Instruction.{Alu, ADD, ADC, SUB, SBC, AND, XOR, OR, CP, Acc, RLCA, RRCA, RLA, RRA, DAA, CPL, SCF, CCF, Shift, RLC, RRC, RL, RR, SLA, SRA, SWAP, SRL}
use Rattle.opcodes.specs.Instruction.{Work, NOP, DI, LD-r8-r8, LD-r8-n8, LD-r16-n16, LD-[r16]-A, LD-A-[r16], LD-[n16]-A, LD-A-[n16], LDH-[n8]-A, LDH-A-[n8], LDH-[C]-A, LDH-A-[C], LD-[n16]-SP, LD-SP-HL, LD-HL-SP+e8, ADD-SP-e8, ALU-A-r8, ALU-A-n8, ACC, INC-r8, DEC-r8, INC-r16, DEC-r16, ADD-HL-r16, PUSH-r16, POP-r16}
use Rattle.opcodes.specs.Instruction.{Jump, JP-n16, JP-HL, JR-e8, CALL-n16, RET, RETI, JP-cc-n16, JR-cc-e8, CALL-cc-n16, RET-cc, RST-vec}
use Rattle.opcodes.specs.Instruction.{does, goes, CB-prefix, HALT, STOP, EI, LD-B-B, ILLEGAL, Prefixed, SHIFT-r8, BIT-u3-r8, RES-u3-r8, SET-u3-r8}
use Rattle.opcodes.specs.Instruction as defined

abbrev pub row : Opcode → OperandType → OperandType → Instruction
row o dest src = record { opcode = o; src = src; dest = dest }

-- no operand
abbrev pub alone : Opcode → Instruction
alone o = row o ot.Implied ot.Implied

abbrev pub operand8 : Reg8 → OperandType
operand8 rB = ot.RegB
operand8 rC = ot.RegC
operand8 rD = ot.RegD
operand8 rE = ot.RegE
operand8 rH = ot.RegH
operand8 rL = ot.RegL
operand8 [HL] = ot.AddrHL
operand8 rA = ot.RegA

abbrev pub operand16 : Reg16 → OperandType
operand16 rBC = ot.RegBC
operand16 rDE = ot.RegDE
operand16 rHL = ot.RegHL
operand16 rSP = ot.RegSP

abbrev pub operand_stacked : Stacked → OperandType
operand_stacked pBC = ot.RegBC
operand_stacked pDE = ot.RegDE
operand_stacked pHL = ot.RegHL
operand_stacked pAF = ot.RegAF

abbrev pub operand_at : Pointer → OperandType
operand_at [BC] = ot.AddrBC
operand_at [DE] = ot.AddrDE
operand_at [HL+] = ot.AddrHLInc
operand_at [HL-] = ot.AddrHLDec

abbrev pub condition : Cond → Condition
condition c_nz = cn.NZ
condition c_z = cn.Z
condition c_nc = cn.NC
condition c_c = cn.C

-- CP writes nothing
abbrev pub alu_row : Alu → OperandType → Instruction
alu_row ADD src = row op.Add ot.RegA src
alu_row ADC src = row op.Adc ot.RegA src
alu_row SUB src = row op.Sub ot.RegA src
alu_row SBC src = row op.Sbc ot.RegA src
alu_row AND src = row op.And ot.RegA src
alu_row XOR src = row op.Xor ot.RegA src
alu_row OR src = row op.Or ot.RegA src
alu_row CP src = row op.Cp ot.Implied src

abbrev pub acc_row : Acc → Instruction
acc_row RLCA = alone op.Rlca
acc_row RRCA = alone op.Rrca
acc_row RLA = alone op.Rla
acc_row RRA = alone op.Rra
acc_row DAA = alone op.Daa
acc_row CPL = alone op.Cpl
acc_row SCF = alone op.Scf
acc_row CCF = alone op.Ccf

abbrev pub shift_code : Shift → Opcode
shift_code RLC = op.Rlc
shift_code RRC = op.Rrc
shift_code RL = op.Rl
shift_code RR = op.Rr
shift_code SLA = op.Sla
shift_code SRA = op.Sra
shift_code SWAP = op.Swap
shift_code SRL = op.Srl

abbrev pub work_row : Work → Instruction
work_row NOP = alone op.Nop
work_row DI = alone op.Di
work_row (LD-r8-r8 to from) = row op.Ld (operand8 to) (operand8 from)
work_row (LD-r8-n8 to) = row op.Ld (operand8 to) ot.Imm8
work_row (LD-r16-n16 to) = row op.Ld (operand16 to) ot.Imm16
work_row (LD-[r16]-A p) = row op.Ld (operand_at p) ot.RegA
work_row (LD-A-[r16] p) = row op.Ld ot.RegA (operand_at p)
work_row LD-[n16]-A = row op.Ld ot.Addr16 ot.RegA
work_row LD-A-[n16] = row op.Ld ot.RegA ot.Addr16
work_row LDH-[n8]-A = row op.Ld ot.HighAddr8 ot.RegA
work_row LDH-A-[n8] = row op.Ld ot.RegA ot.HighAddr8
work_row LDH-[C]-A = row op.Ld ot.HighAddrC ot.RegA
work_row LDH-A-[C] = row op.Ld ot.RegA ot.HighAddrC
work_row LD-[n16]-SP = row op.Ld ot.Addr16Val16 ot.RegSP
work_row LD-SP-HL = alone op.LdSPHL
work_row LD-HL-SP+e8 = row op.LdHLSPSigned8 ot.RegHL ot.Imm8Signed
work_row ADD-SP-e8 = row op.AddSPSigned8 ot.RegSP ot.Imm8Signed
work_row (ALU-A-r8 o from) = alu_row o (operand8 from)
work_row (ALU-A-n8 o) = alu_row o ot.Imm8
work_row (ACC o) = acc_row o
work_row (INC-r8 r) = row op.Inc (operand8 r) (operand8 r)
work_row (DEC-r8 r) = row op.Dec (operand8 r) (operand8 r)
work_row (INC-r16 r) = row op.Inc16 (operand16 r) (operand16 r)
work_row (DEC-r16 r) = row op.Dec16 (operand16 r) (operand16 r)
work_row (ADD-HL-r16 from) = row op.Add16 ot.RegHL (operand16 from)
work_row (PUSH-r16 from) = row op.Push ot.Implied (operand_stacked from)
work_row (POP-r16 to) = row op.Pop (operand_stacked to) ot.Implied

abbrev pub jump_row : Jump → Instruction
jump_row JP-n16 = row (op.Jp cn.Unconditional) ot.Implied ot.Imm16
jump_row JP-HL = row op.JpHL ot.Implied ot.RegHL
jump_row JR-e8 = row (op.Jr cn.Unconditional) ot.Implied ot.Imm8Signed
jump_row CALL-n16 = row (op.Call cn.Unconditional) ot.Implied ot.Imm16
jump_row RET = alone (op.Ret cn.Unconditional)
jump_row RETI = alone op.Reti
jump_row (JP-cc-n16 c) = row (op.Jp (condition c)) ot.Implied ot.Imm16
jump_row (JR-cc-e8 c) = row (op.Jr (condition c)) ot.Implied ot.Imm8Signed
jump_row (CALL-cc-n16 c) = row (op.Call (condition c)) ot.Implied ot.Imm16
jump_row (RET-cc c) = alone (op.Ret (condition c))
jump_row (RST-vec v) = alone (op.Rst v)

abbrev pub row_of : defined.Instruction → Instruction
row_of (does w) = work_row w
row_of (goes j) = jump_row j
row_of CB-prefix = alone op.Prefix
row_of HALT = alone op.Halt
row_of STOP = alone op.Stop
row_of EI = alone op.Ei
row_of LD-B-B = alone op.LdBB
row_of ILLEGAL = alone op.Illegal

abbrev pub prefixed_row : Prefixed → Instruction
prefixed_row (SHIFT-r8 o r) = row (shift_code o) (operand8 r) (operand8 r)
prefixed_row (BIT-u3-r8 n r) = row (op.Bit n) ot.Implied (operand8 r)
prefixed_row (RES-u3-r8 n r) = row (op.Res n) (operand8 r) (operand8 r)
prefixed_row (SET-u3-r8 n r) = row (op.Set n) (operand8 r) (operand8 r)
