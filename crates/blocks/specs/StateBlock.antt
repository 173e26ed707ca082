-- The state block, 24 bytes: 0 A, 1 F, 2 B, 3 C, 4 D, 5 E, 6 H, 7 L, 8-9 SP, 10-11 PC, 12 IME, 13 EI latch, 14 halt mode, 15 stopped,
-- 16 HDMA running, 17 DMG; 18-23 are reserved, not looked at and not changed.
use Rattle.std.specs.Prelude.{Bool, ◌&&◌, List, [], ◌∷◌, ◌++◌, ℕ, eqb, length, get_or, Option, Some, None, if◌then◌else◌}
use Rattle.sm83.specs.declared.Cpu.{Cpu}
use Rattle.sm83.specs.declared.HaltMode.{HaltMode}
use Rattle.sm83.specs.declared.HaltMode.TheVariants.{NotHalting, HaltRunInterrupt, HaltNoRunInterrupt, HaltBug}
use Rattle.sm83.specs.Basics.{bit}
use Rattle.definition.specs.Bus.{byte_at}
use Rattle.blocks.specs.WellFormed.{flags_well_formed}
use Rattle.blocks.specs.Bytes.{filled}
use Rattle.blocks.specs.Registers.{register_bytes, registers_at}

-- 0 NotHalting, 1 HaltRunInterrupt, 2 HaltNoRunInterrupt, 3 HaltBug
abbrev pub halt_number : HaltMode → ℕ
halt_number NotHalting = 0
halt_number HaltRunInterrupt = 1
halt_number HaltNoRunInterrupt = 2
halt_number HaltBug = 3

abbrev pub halt_at : ℕ → HaltMode
halt_at n = get_or (NotHalting ∷ HaltRunInterrupt ∷ HaltNoRunInterrupt ∷ []) n HaltBug

-- Writing.

abbrev pub state_fields : Cpu → List ℕ
state_fields s = register_bytes s.registers ++ bit s.ime ∷ bit s.latch ∷ halt_number s.halt ∷ bit s.stopped ∷ bit s.hdma ∷ bit s.dmg ∷ []

abbrev pub state_bytes : Cpu → List ℕ → List ℕ
state_bytes s block = filled 24 (state_fields s) block

-- Reading.

-- the length is 24, each of the five flags is 0 or 1, and the halt mode is not above 3
abbrev pub well_formed : List ℕ → Bool
well_formed block = eqb (length block) 24 && flags_well_formed block

abbrev pub is_set : ℕ → Bool
is_set b = eqb b 1

abbrev pub flag_at : List ℕ → ℕ → Bool
flag_at block at = is_set (byte_at block at)

abbrev pub state_in : List ℕ → Cpu
state_in block =
    record { registers = registers_at block 0; ime = flag_at block 12; latch = flag_at block 13; halt = halt_at (byte_at block 14); stopped = flag_at block 15; hdma = flag_at block 16; dmg = flag_at block 17 }

abbrev pub state_of : List ℕ → Option Cpu
state_of block = if well_formed block then Some (state_in block) else None
