-- The answer block of a step or a run, 24 bytes: 0-1 the number of the last outcome, 2-3 the steps done, 4-7 the M-cycles,
-- 8-19 the registers that a Breakpoint shows, as bytes 0-11 of a state block, and 0 otherwise, 20-23 0.
use Rattle.std.specs.Prelude.{List, [], ◌∷◌, ◌++◌, ℕ, Option}
use Rattle.sm83.specs.declared.MCycles.{MCycles}
use Rattle.sm83.specs.declared.CpuRegisters.{CpuRegisters}
use Rattle.outcome.specs.Numbers.{Values, no_value, the_interrupt, the_registers, the_address, Said, last_says}
use Rattle.sm83.specs.PowerOn.{registers_zero}
use Rattle.blocks.specs.Bytes.{word_bytes, count_bytes, filled}
use Rattle.blocks.specs.Registers.{register_bytes}
use Rattle.outcome.specs.declared.Outcome.{Outcome}

-- the registers among the values; every register 0 if there are none
abbrev pub shown : Values → CpuRegisters
shown no_value = registers_zero
shown (the_interrupt i) = registers_zero
shown (the_registers r) = r
shown (the_address a) = registers_zero

abbrev pub answer_fields : Said → ℕ → MCycles → List ℕ
answer_fields says steps cycles =
    word_bytes says.number ++ word_bytes steps ++ count_bytes cycles.0 ++ register_bytes (shown says.values) ++ 0 ∷ 0 ∷ 0 ∷ 0 ∷ []

abbrev pub answer_bytes : Option Outcome → ℕ → MCycles → List ℕ → List ℕ
answer_bytes last steps cycles block = filled 24 (answer_fields (last_says last) steps cycles) block
