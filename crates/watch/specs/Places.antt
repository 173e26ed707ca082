-- Where an instruction writes, by its form, and which addresses that are, from the registers after the fetch.
use Rattle.std.specs.Prelude.{Bool, true, false, List, [], ◌∷◌, ℕ, if◌then◌else◌, Option, Some, None}
use Rattle.sm83.specs.declared.CpuRegisters.{CpuRegisters}
use Rattle.sm83.specs.Basics.{word, next, back}
use Rattle.sm83.specs.State.{pair_bc, pair_de, pair_hl}
use Rattle.opcodes.specs.Instruction.{Reg8, rB, rC, rD, rE, rH, rL, [HL], rA, Pointer, [BC], [DE], [HL+], [HL-], Cond, c_nz, c_z, c_nc, c_c}
use Rattle.opcodes.specs.Instruction.{Work, NOP, DI, LD-r8-r8, LD-r8-n8, LD-r16-n16, LD-[r16]-A, LD-A-[r16], LD-[n16]-A, LD-A-[n16], LDH-[n8]-A, LDH-A-[n8], LDH-[C]-A, LDH-A-[C], LD-[n16]-SP, LD-SP-HL, LD-HL-SP+e8, ADD-SP-e8, ALU-A-r8, ALU-A-n8, ACC, INC-r8, DEC-r8, INC-r16, DEC-r16, ADD-HL-r16, PUSH-r16, POP-r16}
use Rattle.opcodes.specs.Instruction.{Jump, JP-n16, JP-HL, JR-e8, CALL-n16, RET, RETI, JP-cc-n16, JR-cc-e8, CALL-cc-n16, RET-cc, RST-vec}
use Rattle.opcodes.specs.Instruction.{Instruction, does, goes, CB-prefix, HALT, STOP, EI, LD-B-B, ILLEGAL, Prefixed, SHIFT-r8, BIT-u3-r8, RES-u3-r8, SET-u3-r8, decode_cb}
use Rattle.instruction.specs.declared.Condition.{Condition}
use Rattle.instruction.specs.declared.Condition.TheVariants as cn
use Rattle.instruction.specs.Holding.{check_cond}
use Rattle.definition.specs.Bus.{byte_at}
use Rattle.definition.specs.Execution.{high}
use Rattle.watch.specs.declared.place.Place.{Place}
use Rattle.watch.specs.declared.place.Place.TheVariants.{AtBC, AtDE, AtHL, AtWord, AtTwo, AtHigh, AtHighC, Pushed, AfterCB}

-- r8: [HL] is the byte at HL
abbrev pub is_hl : Reg8 → Bool
is_hl rB = false
is_hl rC = false
is_hl rD = false
is_hl rE = false
is_hl rH = false
is_hl rL = false
is_hl [HL] = true
is_hl rA = false

abbrev pub place_of8 : Reg8 → Option Place
place_of8 r = if is_hl r then Some AtHL else None

-- [r16]
abbrev pub place_pointed : Pointer → Option Place
place_pointed [BC] = Some AtBC
place_pointed [DE] = Some AtDE
place_pointed [HL+] = Some AtHL
place_pointed [HL-] = Some AtHL

-- cc
abbrev pub condition_of : Cond → Condition
condition_of c_nz = cn.NZ
condition_of c_z = cn.Z
condition_of c_nc = cn.NC
condition_of c_c = cn.C

abbrev pub place_of_work : Work → Option Place
place_of_work NOP = None
place_of_work DI = None
place_of_work (LD-r8-r8 to from) = place_of8 to
place_of_work (LD-r8-n8 to) = place_of8 to
place_of_work (LD-r16-n16 to) = None
place_of_work (LD-[r16]-A p) = place_pointed p
place_of_work (LD-A-[r16] p) = None
place_of_work LD-[n16]-A = Some AtWord
place_of_work LD-A-[n16] = None
place_of_work LDH-[n8]-A = Some AtHigh
place_of_work LDH-A-[n8] = None
place_of_work LDH-[C]-A = Some AtHighC
place_of_work LDH-A-[C] = None
place_of_work LD-[n16]-SP = Some AtTwo
place_of_work LD-SP-HL = None
place_of_work LD-HL-SP+e8 = None
place_of_work ADD-SP-e8 = None
place_of_work (ALU-A-r8 op from) = None
place_of_work (ALU-A-n8 op) = None
place_of_work (ACC op) = None
place_of_work (INC-r8 to) = place_of8 to
place_of_work (DEC-r8 to) = place_of8 to
place_of_work (INC-r16 to) = None
place_of_work (DEC-r16 to) = None
place_of_work (ADD-HL-r16 from) = None
place_of_work (PUSH-r16 from) = Some (Pushed cn.Unconditional)
place_of_work (POP-r16 to) = None

-- a CALL pushes if it is made
abbrev pub place_of_jump : Jump → Option Place
place_of_jump JP-n16 = None
place_of_jump JP-HL = None
place_of_jump JR-e8 = None
place_of_jump CALL-n16 = Some (Pushed cn.Unconditional)
place_of_jump RET = None
place_of_jump RETI = None
place_of_jump (JP-cc-n16 c) = None
place_of_jump (JR-cc-e8 c) = None
place_of_jump (CALL-cc-n16 c) = Some (Pushed (condition_of c))
place_of_jump (RET-cc c) = None
place_of_jump (RST-vec v) = Some (Pushed cn.Unconditional)

abbrev pub place_of : Instruction → Option Place
place_of (does w) = place_of_work w
place_of (goes j) = place_of_jump j
place_of CB-prefix = Some AfterCB
place_of HALT = None
place_of STOP = None
place_of EI = None
place_of LD-B-B = None
place_of ILLEGAL = None

-- after CB: BIT writes nothing
abbrev pub writes_hl : Prefixed → Bool
writes_hl (SHIFT-r8 op to) = is_hl to
writes_hl (BIT-u3-r8 n from) = false
writes_hl (RES-u3-r8 n to) = is_hl to
writes_hl (SET-u3-r8 n to) = is_hl to

-- SP less 1, and less 2
abbrev pub pushed_from : ℕ → List ℕ
pushed_from p = back p ∷ back (back p) ∷ []

-- n8 and n16 at PC
abbrev pub byte_there : CpuRegisters → List ℕ → ℕ
byte_there r m = byte_at m r.pc.0

abbrev pub word_there : CpuRegisters → List ℕ → ℕ
word_there r m = word (byte_at m (next r.pc.0)) (byte_there r m)

-- the addresses in order, from the registers after the fetch
unfoldable pub addresses_at : Option Place → CpuRegisters → List ℕ → List ℕ
addresses_at None r m = []
addresses_at (Some AtBC) r m = pair_bc r ∷ []
addresses_at (Some AtDE) r m = pair_de r ∷ []
addresses_at (Some AtHL) r m = pair_hl r ∷ []
addresses_at (Some AtWord) r m = word_there r m ∷ []
addresses_at (Some AtTwo) r m = word_there r m ∷ next (word_there r m) ∷ []
addresses_at (Some AtHigh) r m = high (byte_there r m) ∷ []
addresses_at (Some AtHighC) r m = high r.c ∷ []
addresses_at (Some (Pushed c)) r m = if check_cond c r.f then pushed_from r.sp.0 else []
addresses_at (Some AfterCB) r m = if writes_hl (decode_cb (byte_there r m)) then pair_hl r ∷ [] else []
