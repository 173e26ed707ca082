-- An interrupt's number, and whether there is one.
use Rattle.std.specs.Prelude.{Bool, true, false, ℕ, None, Option, Some}
use Rattle.outcome.specs.declared.interrupt.InterruptType.{InterruptType}
use Rattle.outcome.specs.declared.interrupt.InterruptType.TheVariants.{Vblank, LcdStat, Timer, Serial, Joypad}

-- "Interrupts 0 to 4"
abbrev pub interrupt_number : InterruptType → ℕ
interrupt_number Vblank = 0
interrupt_number LcdStat = 1
interrupt_number Timer = 2
interrupt_number Serial = 3
interrupt_number Joypad = 4

-- an interrupt, or none
abbrev pub is_pending : Option InterruptType → Bool
is_pending None = false
is_pending (Some i) = true
