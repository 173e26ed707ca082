-- What each answer of a step and of a run says: its number in the document, and the values that come with it. Every promise uses these.
use Rattle.std.specs.Prelude.{ℕ, ◌+◌, None, Option, Some}
use Rattle.sm83.specs.declared.Addr.{Addr}
use Rattle.sm83.specs.declared.CpuRegisters.{CpuRegisters}
use Rattle.outcome.specs.declared.interrupt.InterruptType.{InterruptType}
use Rattle.outcome.specs.Interrupts.{interrupt_number}
use Rattle.outcome.specs.declared.Refusal.{Refusal}
use Rattle.outcome.specs.declared.Refusal.TheVariants.{MemoryLength, LowBitsOfF, IllegalOpcode}
use Rattle.outcome.specs.declared.Outcome.{Outcome}
use Rattle.outcome.specs.declared.Outcome.TheVariants.{Normal, InfiniteLoop, Halting, RunningHDMA, Stopped, RunningInterrupt, Breakpoint, Refused}

-- the table of "When the core says no": what a step or a run gives
abbrev pub number_of : Refusal → ℕ
number_of MemoryLength = 1
number_of LowBitsOfF = 2
number_of IllegalOpcode = 3

-- The values that an answer may carry: none, "its number" (of an interrupt), "the registers as they stand after point 6", "its address".
pub data Values : Type 0 where
  no_value : Values
  the_interrupt : InterruptType → Values
  the_registers : CpuRegisters → Values
  the_address : Addr → Values

pub record Said : Type 0 where
  pub number : ℕ
  pub values : Values

abbrev pub says : ℕ → Values → Said
says n v = record { number = n; values = v }

-- "0 to 4 for Normal, InfiniteLoop, Halting, RunningHDMA, Stopped; 5 Breakpoint; 8 to 12 for interrupts 0 to 4; 16 plus the refusal number" (02, request 5)
abbrev pub outcome_says : Outcome → Said
outcome_says Normal = says 0 no_value
outcome_says InfiniteLoop = says 1 no_value
outcome_says Halting = says 2 no_value
outcome_says RunningHDMA = says 3 no_value
outcome_says Stopped = says 4 no_value
outcome_says (Breakpoint r) = says 5 (the_registers r)
outcome_says (RunningInterrupt i) = says (8 + interrupt_number i) (the_interrupt i)
outcome_says (Refused r) = says (16 + number_of r) no_value

-- a run's last outcome; "nothing run" has 6, which no outcome has
abbrev pub last_says : Option Outcome → Said
last_says None = says 6 no_value
last_says (Some o) = outcome_says o

abbrev pub outcome_number : Outcome → ℕ
outcome_number o = (outcome_says o).number

abbrev pub last_number : Option Outcome → ℕ
last_number l = (last_says l).number
