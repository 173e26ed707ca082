-- What each instruction asks of memory and leaves, one line an instruction. Meanings and M-cycles from the reference; the order of the accesses from 000.
use Rattle.std.specs.Prelude.{true, false, ℕ, ◌+◌, ◌%◌, eqb, if◌then◌else◌, Option}
use Rattle.sm83.specs.declared.CpuRegisters.{CpuRegisters}
use Rattle.sm83.specs.declared.Cpu.{Cpu}
use Rattle.sm83.specs.declared.HaltMode.TheVariants.{HaltRunInterrupt, HaltNoRunInterrupt, HaltBug}
use Rattle.outcome.specs.declared.Refusal.TheVariants.{IllegalOpcode}
use Rattle.outcome.specs.declared.Outcome.{Outcome}
use Rattle.outcome.specs.declared.Outcome.TheVariants.{Normal, InfiniteLoop, Breakpoint, Refused}
use Rattle.sm83.specs.Basics.{cleared, raised, word, high_byte, low_byte, next, back, offset}
use Rattle.definition.specs.Bus as bus
use Rattle.definition.specs.Bus.{Kind, Fetch, Operand, Stack, Ask, read, write}
use Rattle.outcome.specs.Interrupts.{is_pending}
use Rattle.sm83.specs.State.{pair_af, pair_bc, pair_de, pair_hl, write_a, write_f, write_sp, write_pc, put_bc, put_de, put_hl, write_bc, write_de, write_hl, write_af, on_registers, set_pc, set_ime, set_latch, set_halt, set_stopped}
use Rattle.opcodes.specs.Arithmetic.{holds, Result, alu_op, acc_op, shift_op, increment, decrement, bit_test, word_sum_flags, offset_flags}
use Rattle.opcodes.specs.Instruction.{Reg8, rB, rC, rD, rE, rH, rL, [HL], rA, Reg16, rBC, rDE, rHL, rSP, Stacked, pBC, pDE, pHL, pAF, Pointer, [BC], [DE], [HL+], [HL-], Cond}
use Rattle.opcodes.specs.Instruction.{Work, NOP, DI, LD-r8-r8, LD-r8-n8, LD-r16-n16, LD-[r16]-A, LD-A-[r16], LD-[n16]-A, LD-A-[n16], LDH-[n8]-A, LDH-A-[n8], LDH-[C]-A, LDH-A-[C], LD-[n16]-SP, LD-SP-HL, LD-HL-SP+e8, ADD-SP-e8, ALU-A-r8, ALU-A-n8, ACC, INC-r8, DEC-r8, INC-r16, DEC-r16, ADD-HL-r16, PUSH-r16, POP-r16}
use Rattle.opcodes.specs.Instruction.{Jump, JP-n16, JP-HL, JR-e8, CALL-n16, RET, RETI, JP-cc-n16, JR-cc-e8, CALL-cc-n16, RET-cc, RST-vec}
use Rattle.opcodes.specs.Instruction.{Instruction, does, goes, CB-prefix, HALT, STOP, EI, LD-B-B, ILLEGAL, Prefixed, SHIFT-r8, BIT-u3-r8, RES-u3-r8, SET-u3-r8, decode_cb}
use Rattle.outcome.specs.declared.interrupt.InterruptType.{InterruptType}

-- What is done from a state on: its value and the state that it leaves go to what comes next.
abbrev pub Does : Type 0 → Type 0 → Type 0
Does R A = Cpu → (A → Cpu → Ask R) → Ask R

infixl 20 ◌>>=◌ ◌>>◌
-- one thing, then another: `do x ← one; another x`
abbrev pub ◌>>=◌ : {R A B : Type 0} → Does R A → (A → Does R B) → Does R B
◌>>=◌ m f = λ s k. m s (λ a t. f a t k)

abbrev pub ◌>>◌ : {R A B : Type 0} → Does R A → Does R B → Does R B
◌>>◌ m n = λ s k. m s (λ a t. n t k)

abbrev pub give : {R A : Type 0} → A → Does R A
give a = λ s k. k a s

abbrev pub nothing : {R : Type 0} → Does R (Unit {0})
nothing = give tt

-- The state: read it, change it, read a register, change the registers.

abbrev pub state : {R : Type 0} → Does R Cpu
state = λ s k. k s s

abbrev pub change : {R : Type 0} → (Cpu → Cpu) → Does R (Unit {0})
change g = λ s k. k tt (g s)

abbrev pub reg : {R A : Type 0} → (CpuRegisters → A) → Does R A
reg g = λ s k. k (g s.registers) s

abbrev pub set_reg : {R : Type 0} → (CpuRegisters → CpuRegisters) → Does R (Unit {0})
set_reg g = change (on_registers g)

abbrev pub reg_a : {R : Type 0} → Does R ℕ
reg_a = reg (λ r. r.a)

abbrev pub reg_c : {R : Type 0} → Does R ℕ
reg_c = reg (λ r. r.c)

abbrev pub reg_f : {R : Type 0} → Does R ℕ
reg_f = reg (λ r. r.f)

abbrev pub reg_sp : {R : Type 0} → Does R ℕ
reg_sp = reg (λ r. r.sp.0)

abbrev pub reg_pc : {R : Type 0} → Does R ℕ
reg_pc = reg (λ r. r.pc.0)

abbrev pub reg_hl : {R : Type 0} → Does R ℕ
reg_hl = reg pair_hl

-- Memory: a read, a write, an idle access ("the crate's `read(0)`"), a peek.

abbrev pub load : {R : Type 0} → Kind → ℕ → Does R ℕ
load c a = λ s k. read c a (λ v. k v s)

abbrev pub store : {R : Type 0} → Kind → ℕ → ℕ → Does R (Unit {0})
store c a v = λ s k. write c a v (k tt s)

abbrev pub idle : {R : Type 0} → Does R (Unit {0})
idle = λ s k. bus.idle (k tt s)

abbrev pub peek : {R : Type 0} → Does R (Option InterruptType)
peek = λ s k. bus.peek (λ i. k i s)

-- the byte at PC, and PC past it
unfoldable pub byte_at_pc : {R : Type 0} → Kind → Does R ℕ
byte_at_pc c = do p ← reg_pc; v ← load c p; set_reg (write_pc (next p)); give v

-- n8, a8 and e8 of the reference: the byte after the opcode
unfoldable pub imm8 : {R : Type 0} → Does R ℕ
unfolding byte_at_pc
imm8 = byte_at_pc Operand

-- n16 and a16: two bytes, the low one first
unfoldable pub imm16 : {R : Type 0} → Does R ℕ
unfolding imm8
imm16 = do low ← imm8; high ← imm8; give (word high low)

-- "LDH": an address from FF00 on
abbrev pub high : ℕ → ℕ
high n = 0xff00 + n

-- Operands: r8 of the reference, [HL] being the byte at HL.

unfoldable pub get8 : {R : Type 0} → Reg8 → Does R ℕ
get8 rB = reg (λ r. r.b)
get8 rC = reg (λ r. r.c)
get8 rD = reg (λ r. r.d)
get8 rE = reg (λ r. r.e)
get8 rH = reg (λ r. r.h)
get8 rL = reg (λ r. r.l)
get8 [HL] = do a ← reg_hl; load Operand a
get8 rA = reg (λ r. r.a)

unfoldable pub put8 : {R : Type 0} → Reg8 → ℕ → Does R (Unit {0})
put8 rB v = set_reg (λ r. put_bc v r.c r)
put8 rC v = set_reg (λ r. put_bc r.b v r)
put8 rD v = set_reg (λ r. put_de v r.e r)
put8 rE v = set_reg (λ r. put_de r.d v r)
put8 rH v = set_reg (λ r. put_hl v r.l r)
put8 rL v = set_reg (λ r. put_hl r.h v r)
put8 [HL] v = do a ← reg_hl; store Operand a v
put8 rA v = set_reg (write_a v)

-- r16
unfoldable pub get16 : Reg16 → CpuRegisters → ℕ
get16 rBC r = pair_bc r
get16 rDE r = pair_de r
get16 rHL r = pair_hl r
get16 rSP r = r.sp.0

unfoldable pub put16 : Reg16 → ℕ → CpuRegisters → CpuRegisters
put16 rBC w r = write_bc w r
put16 rDE w r = write_de w r
put16 rHL w r = write_hl w r
put16 rSP w r = write_sp w r

-- what PUSH and POP move; "the low four bits of F are always 0"
unfoldable pub get_stacked : Stacked → CpuRegisters → ℕ
get_stacked pBC r = pair_bc r
get_stacked pDE r = pair_de r
get_stacked pHL r = pair_hl r
get_stacked pAF r = pair_af r

unfoldable pub put_stacked : Stacked → ℕ → CpuRegisters → CpuRegisters
put_stacked pBC w r = write_bc w r
put_stacked pDE w r = write_de w r
put_stacked pHL w r = write_hl w r
put_stacked pAF w r = write_af w r

-- [r16]: where it points, and the registers after its use ([HLI] and [HLD] of the reference move HL)
unfoldable pub pointed : Pointer → CpuRegisters → ℕ
pointed [BC] r = pair_bc r
pointed [DE] r = pair_de r
pointed [HL+] r = pair_hl r
pointed [HL-] r = pair_hl r

unfoldable pub moved : Pointer → CpuRegisters → CpuRegisters
moved [BC] r = r
moved [DE] r = r
moved [HL+] r = write_hl (next (pair_hl r)) r
moved [HL-] r = write_hl (back (pair_hl r)) r

-- The stack: SP less 1 and the high byte, SP less 1 and the low byte; and back.

unfoldable pub push : {R : Type 0} → ℕ → Does R (Unit {0})
push w = do p ← reg_sp; store Stack (back p) (high_byte w); store Stack (back (back p)) (low_byte w); set_reg (write_sp (back (back p)))

unfoldable pub pop : {R : Type 0} → Does R ℕ
pop = do p ← reg_sp; low ← load Stack p; high ← load Stack (next p); set_reg (write_sp (next (next p))); give (word high low)

-- What comes of arithmetic: into A and F, or into F and another place.

abbrev pub into_a : {R : Type 0} → Result → Does R (Unit {0})
into_a x = set_reg (λ r. write_f x.flags (write_a x.value r))

abbrev pub into8 : {R : Type 0} → Reg8 → Result → Does R (Unit {0})
into8 to x = do set_reg (write_f x.flags); put8 to x.value

-- Instructions that go on to the next.
unfoldable pub work : {R : Type 0} → Work → Does R (Unit {0})
work NOP = nothing
work DI = change (set_ime false)
work (LD-r8-r8 to from) = do v ← get8 from; put8 to v
work (LD-r8-n8 to) = do v ← imm8; put8 to v
work (LD-r16-n16 to) = do w ← imm16; set_reg (put16 to w)
work (LD-[r16]-A p) = do a ← reg (pointed p); v ← reg_a; store Operand a v; set_reg (moved p)
work (LD-A-[r16] p) = do a ← reg (pointed p); v ← load Operand a; set_reg (moved p); set_reg (write_a v)
work LD-[n16]-A = do a ← imm16; v ← reg_a; store Operand a v
work LD-A-[n16] = do a ← imm16; v ← load Operand a; set_reg (write_a v)
work LDH-[n8]-A = do n ← imm8; v ← reg_a; store Operand (high n) v
work LDH-A-[n8] = do n ← imm8; v ← load Operand (high n); set_reg (write_a v)
work LDH-[C]-A = do n ← reg_c; v ← reg_a; store Operand (high n) v
work LDH-A-[C] = do n ← reg_c; v ← load Operand (high n); set_reg (write_a v)
work LD-[n16]-SP = do a ← imm16; w ← reg_sp; store Operand a (low_byte w); store Operand (next a) (high_byte w)
work LD-SP-HL = do idle; w ← reg_hl; set_reg (write_sp w)
work LD-HL-SP+e8 = do e ← imm8; idle; w ← reg_sp; set_reg (write_f (offset_flags w e)); set_reg (write_hl (offset w e))
work ADD-SP-e8 = do e ← imm8; idle; idle; w ← reg_sp; set_reg (write_f (offset_flags w e)); set_reg (write_sp (offset w e))
work (ALU-A-r8 op from) = do x ← get8 from; a ← reg_a; f ← reg_f; into_a (alu_op op a x f)
work (ALU-A-n8 op) = do x ← imm8; a ← reg_a; f ← reg_f; into_a (alu_op op a x f)
work (ACC op) = do a ← reg_a; f ← reg_f; into_a (acc_op op a f)
work (INC-r8 to) = do x ← get8 to; f ← reg_f; into8 to (increment x f)
work (DEC-r8 to) = do x ← get8 to; f ← reg_f; into8 to (decrement x f)
work (INC-r16 to) = do idle; w ← reg (get16 to); set_reg (put16 to (next w))
work (DEC-r16 to) = do idle; w ← reg (get16 to); set_reg (put16 to (back w))
work (ADD-HL-r16 from) = do idle; x ← reg (get16 from); w ← reg_hl; f ← reg_f; set_reg (write_f (word_sum_flags w x f)); set_reg (write_hl ((w + x) % 65536))
work (PUSH-r16 from) = do idle; w ← reg (get_stacked from); push w
work (POP-r16 to) = do w ← pop; set_reg (put_stacked to w)

-- The instructions after CB.
unfoldable pub prefixed : {R : Type 0} → Prefixed → Does R (Unit {0})
prefixed (SHIFT-r8 op to) = do x ← get8 to; f ← reg_f; into8 to (shift_op op x f)
prefixed (BIT-u3-r8 n from) = do x ← get8 from; f ← reg_f; set_reg (write_f (bit_test n x f))
prefixed (RES-u3-r8 n to) = do x ← get8 to; put8 to (cleared n x)
prefixed (SET-u3-r8 n to) = do x ← get8 to; put8 to (raised n x)

-- Jumps.

abbrev pub normal : {R : Type 0} → Does R Outcome
normal = give Normal

-- PC becomes t
abbrev pub go_to : {R : Type 0} → ℕ → Does R (Unit {0})
go_to t = set_reg (write_pc t)

-- "InfiniteLoop (unconditional JP or JR, or JP HL, to its own start)"
abbrev pub go_from : {R : Type 0} → ℕ → ℕ → Does R Outcome
go_from at t = do go_to t; give (if eqb t at then InfiniteLoop else Normal)

-- CALL and RST: an idle access, PC pushed, PC becomes t; RET and RETI: PC popped, an idle access
abbrev pub call : {R : Type 0} → ℕ → Does R (Unit {0})
call t = do idle; p ← reg_pc; push p; go_to t

abbrev pub return : {R : Type 0} → Does R (Unit {0})
return = do t ← pop; idle; go_to t

-- "cc": only where the condition holds
abbrev pub only_if : {R : Type 0} → Cond → Does R (Unit {0}) → Does R Outcome
only_if c p = do f ← reg_f; if holds c f then (do p; normal) else normal

-- `at` is the address of the jump; PC is past its first byte
unfoldable pub jump : {R : Type 0} → ℕ → Jump → Does R Outcome
jump at JP-n16 = do t ← imm16; idle; go_from at t
jump at JP-HL = do t ← reg_hl; go_from at t
jump at JR-e8 = do e ← imm8; idle; p ← reg_pc; go_from at (offset p e)
jump at CALL-n16 = do t ← imm16; call t; normal
jump at RET = do return; normal
jump at RETI = do return; change (set_ime true); normal
jump at (JP-cc-n16 c) = do t ← imm16; only_if c (do idle; go_to t)
jump at (JR-cc-e8 c) = do e ← imm8; only_if c (do idle; p ← reg_pc; go_to (offset p e))
jump at (CALL-cc-n16 c) = do t ← imm16; only_if c (call t)
jump at (RET-cc c) = do idle; only_if c return
jump at (RST-vec v) = do call v; normal

-- "HALT with IME set enters HaltRunInterrupt; with IME clear, HaltBug if one is pending, else HaltNoRunInterrupt"
abbrev pub halt : {R : Type 0} → Does R (Unit {0})
halt = do
  s ← state
  if s.ime then change (set_halt HaltRunInterrupt) else (do i ← peek; change (set_halt (if is_pending i then HaltBug else HaltNoRunInterrupt)))

-- point 7, from the state after the fetch
unfoldable pub execute : {R : Type 0} → ℕ → Instruction → Does R Outcome
execute at (does w) = do work w; normal
execute at (goes j) = jump at j
execute at CB-prefix = do x ← byte_at_pc Fetch; prefixed (decode_cb x); normal
execute at HALT = do halt; normal
execute at STOP = do change (set_stopped true); normal
execute at EI = do change (set_latch true); normal
execute at LD-B-B = do r ← reg (λ r. r); give (Breakpoint r)
execute at ILLEGAL = do change (set_pc at); give (Refused IllegalOpcode)

-- a proof that says `unfolding executing` opens all of this page
unfoldable pub executing : ℕ
unfolding execute jump prefixed work push pop moved pointed put_stacked get_stacked put16 get16 put8 get8 imm16 imm8 byte_at_pc
executing = 0
