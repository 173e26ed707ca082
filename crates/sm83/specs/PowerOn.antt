-- The states at power-on, from the document's table.
use Rattle.std.specs.Prelude.{Bool, true, false}
use Rattle.sm83.specs.declared.CpuRegisters.{CpuRegisters}
use Rattle.sm83.specs.declared.Cpu.{Cpu}
use Rattle.sm83.specs.declared.HaltMode.TheVariants.{NotHalting}
use Rattle.sm83.specs.State.{registers_of}

-- A, F, B, C, D, E, H, L, "with SP 0xFFFE and PC 0x0100"
abbrev pub registers_dmg : CpuRegisters
registers_dmg = registers_of 0x01 0xb0 0x00 0x13 0x00 0xd8 0x01 0x4d 0xfffe 0x0100

abbrev pub registers_cgb : CpuRegisters
registers_cgb = registers_of 0x11 0x80 0x00 0x00 0xff 0x56 0x00 0x0d 0xfffe 0x0100

abbrev pub registers_cgb_dmg : CpuRegisters
registers_cgb_dmg = registers_of 0x11 0x80 0x00 0x00 0x00 0x08 0x00 0x7c 0xfffe 0x0100

-- "The state without a boot skip has every register 0"
abbrev pub registers_zero : CpuRegisters
registers_zero = registers_of 0 0 0 0 0 0 0 0 0 0

-- "All four have IME, EI latch, stopped and HDMA running clear, and NotHalting"
abbrev pub awake_with : CpuRegisters → Bool → Cpu
awake_with r dmg =
    record { registers = r; ime = false; latch = false; halt = NotHalting; stopped = false; hdma = false; dmg = dmg }

abbrev pub cpu_dmg : Cpu
cpu_dmg = awake_with registers_dmg true

abbrev pub cpu_cgb : Cpu
cpu_cgb = awake_with registers_cgb false

abbrev pub cpu_cgb_dmg : Cpu
cpu_cgb_dmg = awake_with registers_cgb_dmg false

-- either model can be started without a boot skip
abbrev pub cpu_zero : Bool → Cpu
cpu_zero dmg = awake_with registers_zero dmg
