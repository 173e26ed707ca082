-- Number and values tell the answer: no two outcomes say the same, since the outcome can be read off what it says.
use Rattle.std.specs.Prelude.{None, Option, Some}
use mathlib.Core.Path.{◌≡◌, refl, ap, sym, ◌∙◌}
use mathlib.Core.List.{List, [], ◌∷◌}
use Prim.Native.Nat.{ℕ, ◌<◌}
use native.Mathlib.Omega.{arith}
use lib.ListN.{get_or}
use Rattle.outcome.specs.declared.interrupt.InterruptType.{InterruptType}
use Rattle.outcome.specs.declared.interrupt.InterruptType.TheVariants.{Vblank, LcdStat, Timer, Serial, Joypad}
use Rattle.outcome.specs.declared.Refusal.TheVariants.{MemoryLength, LowBitsOfF, IllegalOpcode}
use Rattle.outcome.specs.declared.Outcome.{Outcome}
use Rattle.outcome.specs.declared.Outcome.TheVariants.{Normal, InfiniteLoop, Halting, RunningHDMA, Stopped, RunningInterrupt, Breakpoint, Refused}
use Rattle.outcome.specs.Interrupts.{interrupt_number}
use Rattle.outcome.specs.Numbers.{Values, no_value, the_interrupt, the_registers, the_address, Said, outcome_says, last_says}

-- "Interrupts 0 to 4": the five vectors have a place for each
pub one_of_five : (i : InterruptType) → interrupt_number i < 5
one_of_five Vblank = omega arith
one_of_five LcdStat = omega arith
one_of_five Timer = omega arith
one_of_five Serial = omega arith
one_of_five Joypad = omega arith

-- a run's last outcome, by its number where no value tells it; 5, 7 to 16 are numbers of none of these
abbrev numbered : List (Option Outcome)
numbered =
    Some Normal ∷ Some InfiniteLoop ∷ Some Halting ∷ Some RunningHDMA ∷ Some Stopped ∷ None ∷ None ∷ None ∷
    None ∷ None ∷ None ∷ None ∷ None ∷ None ∷ None ∷ None ∷
    None ∷ Some (Refused MemoryLength) ∷ Some (Refused LowBitsOfF) ∷ Some (Refused IllegalOpcode) ∷ []

abbrev by_values : ℕ → Values → Option Outcome
by_values n no_value = get_or numbered n None
by_values n (the_interrupt i) = Some (RunningInterrupt i)
by_values n (the_registers r) = Some (Breakpoint r)
by_values n (the_address a) = None

read_off : (l : Option Outcome) → by_values (last_says l).number (last_says l).values ≡ l
read_off None = refl
read_off (Some Normal) = refl
read_off (Some InfiniteLoop) = refl
read_off (Some Halting) = refl
read_off (Some RunningHDMA) = refl
read_off (Some Stopped) = refl
read_off (Some (RunningInterrupt i)) = refl
read_off (Some (Breakpoint r)) = refl
read_off (Some (Refused MemoryLength)) = refl
read_off (Some (Refused LowBitsOfF)) = refl
read_off (Some (Refused IllegalOpcode)) = refl

-- of a run
pub last_told : (l k : Option Outcome) → last_says l ≡ last_says k → l ≡ k
last_told l k e = sym (read_off l) ∙ ap (λ (s : Said). by_values s.number s.values) e ∙ read_off k

-- and of a step
pub outcome_told : (o p : Outcome) → outcome_says o ≡ outcome_says p → o ≡ p
outcome_told o p e = ap (λ (l : Option Outcome). within l o) (last_told (Some o) (Some p) e)
  where
    within : Option Outcome → Outcome → Outcome
    within None none = none
    within (Some x) none = x
