-- A state as demand 3 wants it to begin with, as a test.
use Rattle.std.specs.Prelude.{Bool, true, false, not, ◌&&◌, ◌%◌, eqb}
use Rattle.sm83.specs.declared.Cpu.{Cpu}
use Rattle.sm83.specs.declared.HaltMode.{HaltMode}
use Rattle.sm83.specs.declared.HaltMode.TheVariants.{NotHalting, HaltRunInterrupt, HaltNoRunInterrupt, HaltBug}
use Rattle.sm83.specs.State.{flags}

-- HALT was executed: asleep, or HaltBug
abbrev pub is_halted : HaltMode → Bool
is_halted NotHalting = false
is_halted HaltRunInterrupt = true
is_halted HaltNoRunInterrupt = true
is_halted HaltBug = true

-- "awake means not stopped, HDMA not running and NotHalting; interrupts off means that IME is clear .. none being enabled means that the EI latch is clear"
abbrev pub is_quiet : Cpu → Bool
is_quiet s = not s.stopped && not s.hdma && not (is_halted s.halt) && not s.ime && not s.latch && eqb (flags s % 16) 0
