-- The instructions, named as the reference (gbz80(7)) names them, and which of them a byte stands for.
-- A byte is decoded by its octal fields, as the hardware does: its two high bits, the next three, and the low three.
use Rattle.std.specs.Prelude.{[], ◌∷◌, ℕ, suc, ◌*◌, ◌/◌, ◌%◌, get_or}

-- r8 of the reference, in the order of the byte's low three bits
pub data Reg8 : Type 0 where
  rB rC rD rE rH rL [HL] rA : Reg8

-- r16; the pairs that PUSH and POP take; and the pointers of LD [r16],A
pub data Reg16 : Type 0 where
  rBC rDE rHL rSP : Reg16

pub data Stacked : Type 0 where
  pBC pDE pHL pAF : Stacked

pub data Pointer : Type 0 where
  [BC] [DE] [HL+] [HL-] : Pointer

-- cc
pub data Cond : Type 0 where
  c_nz c_z c_nc c_c : Cond

-- operations on A and another byte, on A and F alone, and on any byte after CB
pub data Alu : Type 0 where
  ADD ADC SUB SBC AND XOR OR CP : Alu

pub data Acc : Type 0 where
  RLCA RRCA RLA RRA DAA CPL SCF CCF : Acc

pub data Shift : Type 0 where
  RLC RRC RL RR SLA SRA SWAP SRL : Shift

-- what goes on to the next instruction
pub data Work : Type 0 where
  NOP DI : Work
  LD-r8-r8 : Reg8 → Reg8 → Work
  LD-r8-n8 : Reg8 → Work
  LD-r16-n16 : Reg16 → Work
  LD-[r16]-A LD-A-[r16] : Pointer → Work
  LD-[n16]-A LD-A-[n16] LDH-[n8]-A LDH-A-[n8] LDH-[C]-A LDH-A-[C] : Work
  LD-[n16]-SP LD-SP-HL LD-HL-SP+e8 ADD-SP-e8 : Work
  ALU-A-r8 : Alu → Reg8 → Work
  ALU-A-n8 : Alu → Work
  ACC : Acc → Work
  INC-r8 DEC-r8 : Reg8 → Work
  INC-r16 DEC-r16 ADD-HL-r16 : Reg16 → Work
  PUSH-r16 POP-r16 : Stacked → Work

-- what may go elsewhere
pub data Jump : Type 0 where
  JP-n16 JP-HL JR-e8 CALL-n16 RET RETI : Jump
  JP-cc-n16 JR-cc-e8 CALL-cc-n16 RET-cc : Cond → Jump
  RST-vec : ℕ → Jump

pub data Instruction : Type 0 where
  does : Work → Instruction
  goes : Jump → Instruction
  CB-prefix HALT STOP EI : Instruction
  LD-B-B ILLEGAL : Instruction

-- after CB
pub data Prefixed : Type 0 where
  SHIFT-r8 : Shift → Reg8 → Prefixed
  BIT-u3-r8 RES-u3-r8 SET-u3-r8 : ℕ → Reg8 → Prefixed

-- The fields.

abbrev pub reg8 : ℕ → Reg8
reg8 k = get_or (rB ∷ rC ∷ rD ∷ rE ∷ rH ∷ rL ∷ [HL] ∷ rA ∷ []) k rA

abbrev pub reg16 : ℕ → Reg16
reg16 k = get_or (rBC ∷ rDE ∷ rHL ∷ rSP ∷ []) k rSP

abbrev pub stacked : ℕ → Stacked
stacked k = get_or (pBC ∷ pDE ∷ pHL ∷ pAF ∷ []) k pAF

abbrev pub pointer : ℕ → Pointer
pointer k = get_or ([BC] ∷ [DE] ∷ [HL+] ∷ [HL-] ∷ []) k [HL-]

abbrev pub alu : ℕ → Alu
alu k = get_or (ADD ∷ ADC ∷ SUB ∷ SBC ∷ AND ∷ XOR ∷ OR ∷ CP ∷ []) k CP

abbrev pub acc : ℕ → Acc
acc k = get_or (RLCA ∷ RRCA ∷ RLA ∷ RRA ∷ DAA ∷ CPL ∷ SCF ∷ CCF ∷ []) k CCF

abbrev pub shift : ℕ → Shift
shift k = get_or (RLC ∷ RRC ∷ RL ∷ RR ∷ SLA ∷ SRA ∷ SWAP ∷ SRL ∷ []) k SRL

abbrev pub of8 : ℕ → Instruction → Instruction → Instruction → Instruction → Instruction → Instruction → Instruction → Instruction → Instruction
of8 k i0 i1 i2 i3 i4 i5 i6 i7 = get_or (i0 ∷ i1 ∷ i2 ∷ i3 ∷ i4 ∷ i5 ∷ i6 ∷ i7 ∷ []) k ILLEGAL

abbrev pub of2 : ℕ → Instruction → Instruction → Instruction
of2 k i0 i1 = get_or (i0 ∷ i1 ∷ []) k ILLEGAL

-- 00 to 3F
abbrev pub quarter0 : ℕ → ℕ → Instruction
quarter0 y z =
    of8 z
    (of8 y (does NOP) (does LD-[n16]-SP) STOP (goes JR-e8) (goes (JR-cc-e8 c_nz)) (goes (JR-cc-e8 c_z)) (goes (JR-cc-e8 c_nc)) (goes (JR-cc-e8 c_c)))
    (of2 (y % 2) (does (LD-r16-n16 (reg16 (y / 2)))) (does (ADD-HL-r16 (reg16 (y / 2)))))
    (of2 (y % 2) (does (LD-[r16]-A (pointer (y / 2)))) (does (LD-A-[r16] (pointer (y / 2)))))
    (of2 (y % 2) (does (INC-r16 (reg16 (y / 2)))) (does (DEC-r16 (reg16 (y / 2)))))
    (does (INC-r8 (reg8 y)))
    (does (DEC-r8 (reg8 y)))
    (does (LD-r8-n8 (reg8 y)))
    (does (ACC (acc y)))

-- 40 to 7F: LD B,B is a breakpoint (000), and LD [HL],[HL] is HALT
abbrev pub loads : ℕ → ℕ → Instruction
loads y z = get_or (get_or (LD-B-B ∷ []) z (to rB) ∷ to rC ∷ to rD ∷ to rE ∷ to rH ∷ to rL ∷ of8 z (to [HL]) (to [HL]) (to [HL]) (to [HL]) (to [HL]) (to [HL]) HALT (to [HL]) ∷ []) y (to rA)
  where
    to : Reg8 → Instruction
    to r = does (LD-r8-r8 r (reg8 z))

-- C0 to FF
abbrev pub quarter3 : ℕ → ℕ → Instruction
quarter3 y z =
    of8 z
    (of8 y (goes (RET-cc c_nz)) (goes (RET-cc c_z)) (goes (RET-cc c_nc)) (goes (RET-cc c_c)) (does LDH-[n8]-A) (does ADD-SP-e8) (does LDH-A-[n8]) (does LD-HL-SP+e8))
    (of2 (y % 2) (does (POP-r16 (stacked (y / 2)))) (of8 (y / 2) (goes RET) (goes RETI) (goes JP-HL) (does LD-SP-HL) ILLEGAL ILLEGAL ILLEGAL ILLEGAL))
    (of8 y (goes (JP-cc-n16 c_nz)) (goes (JP-cc-n16 c_z)) (goes (JP-cc-n16 c_nc)) (goes (JP-cc-n16 c_c)) (does LDH-[C]-A) (does LD-[n16]-A) (does LDH-A-[C]) (does LD-A-[n16]))
    (of8 y (goes JP-n16) CB-prefix ILLEGAL ILLEGAL ILLEGAL ILLEGAL (does DI) EI)
    (of8 y (goes (CALL-cc-n16 c_nz)) (goes (CALL-cc-n16 c_z)) (goes (CALL-cc-n16 c_nc)) (goes (CALL-cc-n16 c_c)) ILLEGAL ILLEGAL ILLEGAL ILLEGAL)
    (of2 (y % 2) (does (PUSH-r16 (stacked (y / 2)))) (of8 (y / 2) (goes CALL-n16) ILLEGAL ILLEGAL ILLEGAL ILLEGAL ILLEGAL ILLEGAL ILLEGAL))
    (does (ALU-A-n8 (alu y)))
    (goes (RST-vec (y * 8)))

abbrev pub fields : ℕ → ℕ → ℕ → Instruction
fields x y z = get_or (quarter0 y z ∷ loads y z ∷ does (ALU-A-r8 (alu y) (reg8 z)) ∷ quarter3 y z ∷ []) x ILLEGAL

unfoldable pub decode : ℕ → Instruction
decode b = fields (b / 64) (b / 8 % 8) (b % 8)

unfoldable pub decode_cb : ℕ → Prefixed
decode_cb b =
    get_or (SHIFT-r8 (shift (b / 8 % 8)) (reg8 (b % 8)) ∷ BIT-u3-r8 (b / 8 % 8) (reg8 (b % 8)) ∷ RES-u3-r8 (b / 8 % 8) (reg8 (b % 8)) ∷ [])
    (b / 64) (SET-u3-r8 (b / 8 % 8) (reg8 (b % 8)))

-- The bytes that follow the first. "STOP is one byte"; the byte after CB belongs to the instruction.

abbrev pub work_operands : Work → ℕ
work_operands NOP = 0
work_operands DI = 0
work_operands (LD-r8-r8 to from) = 0
work_operands (LD-r8-n8 to) = 1
work_operands (LD-r16-n16 to) = 2
work_operands (LD-[r16]-A p) = 0
work_operands (LD-A-[r16] p) = 0
work_operands LD-[n16]-A = 2
work_operands LD-A-[n16] = 2
work_operands LDH-[n8]-A = 1
work_operands LDH-A-[n8] = 1
work_operands LDH-[C]-A = 0
work_operands LDH-A-[C] = 0
work_operands LD-[n16]-SP = 2
work_operands LD-SP-HL = 0
work_operands LD-HL-SP+e8 = 1
work_operands ADD-SP-e8 = 1
work_operands (ALU-A-r8 op r) = 0
work_operands (ALU-A-n8 op) = 1
work_operands (ACC op) = 0
work_operands (INC-r8 r) = 0
work_operands (DEC-r8 r) = 0
work_operands (INC-r16 r) = 0
work_operands (DEC-r16 r) = 0
work_operands (ADD-HL-r16 r) = 0
work_operands (PUSH-r16 r) = 0
work_operands (POP-r16 r) = 0

abbrev pub jump_operands : Jump → ℕ
jump_operands JP-n16 = 2
jump_operands JP-HL = 0
jump_operands JR-e8 = 1
jump_operands CALL-n16 = 2
jump_operands RET = 0
jump_operands RETI = 0
jump_operands (JP-cc-n16 c) = 2
jump_operands (JR-cc-e8 c) = 1
jump_operands (CALL-cc-n16 c) = 2
jump_operands (RET-cc c) = 0
jump_operands (RST-vec v) = 0

abbrev pub operands : Instruction → ℕ
operands (does w) = work_operands w
operands (goes j) = jump_operands j
operands CB-prefix = 1
operands HALT = 0
operands STOP = 0
operands EI = 0
operands LD-B-B = 0
operands ILLEGAL = 0

abbrev pub length_of : Instruction → ℕ
length_of i = suc (operands i)
