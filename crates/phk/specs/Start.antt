-- Where a run starts and how many steps it may take, by what the command line says.
use Rattle.std.specs.Prelude.{ℕ, true, false}
use Rattle.sm83.specs.declared.Cpu.{Cpu}
use Rattle.sm83.specs.declared.CpuRegisters.{CpuRegisters}
use Rattle.sm83.specs.declared.HaltMode.TheVariants.{NotHalting}
use Rattle.sm83.specs.Basics.{high_byte, low_byte}
use Rattle.sm83.specs.State.{pair_af, pair_bc, pair_de, pair_hl, registers_of}
use Rattle.sm83.specs.PowerOn.{cpu_dmg, cpu_cgb, cpu_cgb_dmg, cpu_zero}
use Rattle.commandline.specs.declared.grammar.Power.{Power}
use Rattle.commandline.specs.declared.grammar.Power.TheVariants.{Dmg, Cgb, CgbDmg, Zero}
use Rattle.commandline.specs.declared.grammar.Part.TheVariants.{First, State, Pc, Sp, Af, Bc, De, Hl, Ime, Ei, Steps}
use Rattle.commandline.specs.declared.line.Line.{Line}
use Rattle.commandline.specs.Given.{is_given, address_or, number_or, power_or}
use Rattle.commandline.specs.Line.{said_of}

unfoldable pub at_power_on : Power → Cpu
at_power_on Dmg = cpu_dmg
at_power_on Cgb = cpu_cgb
at_power_on CgbDmg = cpu_cgb_dmg
at_power_on Zero = cpu_zero true

-- the registers by their six words
abbrev pub of_words : ℕ → ℕ → ℕ → ℕ → ℕ → ℕ → CpuRegisters
of_words af bc de hl sp pc = registers_of (high_byte af) (low_byte af) (high_byte bc) (low_byte bc) (high_byte de) (low_byte de) (high_byte hl) (low_byte hl) sp pc

-- what the line gives in place of the state's own: --af with its low bits as they are, so that refusal 2 speaks of them; a run within a window starts at its first address
abbrev pub started_with : Line → CpuRegisters → CpuRegisters
started_with l r =
    of_words
    (address_or (said_of l Af) (pair_af r))
    (address_or (said_of l Bc) (pair_bc r))
    (address_or (said_of l De) (pair_de r))
    (address_or (said_of l Hl) (pair_hl r))
    (address_or (said_of l Sp) r.sp.0)
    (address_or (said_of l Pc) (address_or (said_of l First) r.pc.0))

-- awake, with interrupts on if --ime says so, and on after the next instruction if --ei does
abbrev pub started_from : Line → Cpu → Cpu
started_from l c =
    record { registers = started_with l c.registers; ime = is_given (said_of l Ime); latch = is_given (said_of l Ei); halt = NotHalting; stopped = false; hdma = false; dmg = c.dmg }

abbrev pub started : Line → Cpu
started l = started_from l (at_power_on (power_or (said_of l State) Dmg))

abbrev pub budget : Line → ℕ
budget l = number_or (said_of l Steps) 65535
