-- The state: what its parts are called, and the state with one part changed.
use Rattle.std.specs.Prelude.{ℕ, ◌*◌, ◌/◌, Bool}
use Rattle.sm83.specs.declared.Addr.{Addr}
use Rattle.sm83.specs.declared.CpuRegisters.{CpuRegisters}
use Rattle.sm83.specs.declared.Cpu.{Cpu}
use Rattle.sm83.specs.declared.HaltMode.{HaltMode}
use Rattle.sm83.specs.Basics.{word, high_byte, low_byte}

-- "an address and a count of M-cycles are never mixed up"
abbrev pub addr : ℕ → Addr
addr a = record { 0 = a }

-- The registers, in the order AF, BC, DE, HL, SP, PC.

abbrev pub registers_of : ℕ → ℕ → ℕ → ℕ → ℕ → ℕ → ℕ → ℕ → ℕ → ℕ → CpuRegisters
registers_of a f b c d e h l sp pc =
    record { a = a; b = b; c = c; sp = addr sp; f = f; d = d; e = e; h = h; l = l; pc = addr pc }

-- "AF, BC, DE, HL"
abbrev pub pair_af : CpuRegisters → ℕ
pair_af r = word r.a r.f

abbrev pub pair_bc : CpuRegisters → ℕ
pair_bc r = word r.b r.c

abbrev pub pair_de : CpuRegisters → ℕ
pair_de r = word r.d r.e

abbrev pub pair_hl : CpuRegisters → ℕ
pair_hl r = word r.h r.l

-- one register changed
abbrev pub write_a : ℕ → CpuRegisters → CpuRegisters
write_a v r = record { a = v; b = r.b; c = r.c; sp = r.sp; f = r.f; d = r.d; e = r.e; h = r.h; l = r.l; pc = r.pc }

abbrev pub write_f : ℕ → CpuRegisters → CpuRegisters
write_f v r = record { a = r.a; b = r.b; c = r.c; sp = r.sp; f = v; d = r.d; e = r.e; h = r.h; l = r.l; pc = r.pc }

abbrev pub write_sp : ℕ → CpuRegisters → CpuRegisters
write_sp v r = record { a = r.a; b = r.b; c = r.c; sp = addr v; f = r.f; d = r.d; e = r.e; h = r.h; l = r.l; pc = r.pc }

abbrev pub write_pc : ℕ → CpuRegisters → CpuRegisters
write_pc v r = record { a = r.a; b = r.b; c = r.c; sp = r.sp; f = r.f; d = r.d; e = r.e; h = r.h; l = r.l; pc = addr v }

-- two bytes at once
abbrev pub put_bc : ℕ → ℕ → CpuRegisters → CpuRegisters
put_bc x y r = record { a = r.a; b = x; c = y; sp = r.sp; f = r.f; d = r.d; e = r.e; h = r.h; l = r.l; pc = r.pc }

abbrev pub put_de : ℕ → ℕ → CpuRegisters → CpuRegisters
put_de x y r = record { a = r.a; b = r.b; c = r.c; sp = r.sp; f = r.f; d = x; e = y; h = r.h; l = r.l; pc = r.pc }

abbrev pub put_hl : ℕ → ℕ → CpuRegisters → CpuRegisters
put_hl x y r = record { a = r.a; b = r.b; c = r.c; sp = r.sp; f = r.f; d = r.d; e = r.e; h = x; l = y; pc = r.pc }

abbrev pub write_bc : ℕ → CpuRegisters → CpuRegisters
write_bc w r = put_bc (high_byte w) (low_byte w) r

abbrev pub write_de : ℕ → CpuRegisters → CpuRegisters
write_de w r = put_de (high_byte w) (low_byte w) r

abbrev pub write_hl : ℕ → CpuRegisters → CpuRegisters
write_hl w r = put_hl (high_byte w) (low_byte w) r

-- "the low four bits of F are always 0"
abbrev pub write_af : ℕ → CpuRegisters → CpuRegisters
write_af w r = write_f (low_byte w / 16 * 16) (write_a (high_byte w) r)

-- The whole state.

abbrev pub pc : Cpu → ℕ
pc s = s.registers.pc.0

abbrev pub sp : Cpu → ℕ
sp s = s.registers.sp.0

abbrev pub flags : Cpu → ℕ
flags s = s.registers.f

abbrev pub on_registers : (CpuRegisters → CpuRegisters) → Cpu → Cpu
on_registers g s = record { registers = g s.registers; ime = s.ime; latch = s.latch; halt = s.halt; stopped = s.stopped; hdma = s.hdma; dmg = s.dmg }

abbrev pub set_pc : ℕ → Cpu → Cpu
set_pc v s = on_registers (write_pc v) s

abbrev pub set_sp : ℕ → Cpu → Cpu
set_sp v s = on_registers (write_sp v) s

abbrev pub set_f : ℕ → Cpu → Cpu
set_f v s = on_registers (write_f v) s

abbrev pub set_ime : Bool → Cpu → Cpu
set_ime v s = record { registers = s.registers; ime = v; latch = s.latch; halt = s.halt; stopped = s.stopped; hdma = s.hdma; dmg = s.dmg }

abbrev pub set_latch : Bool → Cpu → Cpu
set_latch v s = record { registers = s.registers; ime = s.ime; latch = v; halt = s.halt; stopped = s.stopped; hdma = s.hdma; dmg = s.dmg }

abbrev pub set_halt : HaltMode → Cpu → Cpu
set_halt v s = record { registers = s.registers; ime = s.ime; latch = s.latch; halt = v; stopped = s.stopped; hdma = s.hdma; dmg = s.dmg }

abbrev pub set_stopped : Bool → Cpu → Cpu
set_stopped v s = record { registers = s.registers; ime = s.ime; latch = s.latch; halt = s.halt; stopped = v; hdma = s.hdma; dmg = s.dmg }
