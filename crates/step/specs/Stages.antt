-- What the stages of `next_instruction` do, in the order of 000: they split the definition's step where the code's functions split it.
use Rattle.std.specs.Prelude.{◌≡◌, Bool, false, List, ℕ, T, if◌then◌else◌}
use Rattle.sm83.specs.declared.Cpu.{Cpu}
use Rattle.sm83.specs.declared.HaltMode.TheVariants.{NotHalting}
use Rattle.outcome.specs.declared.Outcome.{Outcome}
use Rattle.outcome.specs.declared.Outcome.TheVariants.{Halting}
use Rattle.definition.specs.Bus.{Ask, peek}
use Rattle.outcome.specs.Interrupts.{is_pending}
use Rattle.sm83.specs.State.{set_pc, set_halt}
use Rattle.definition.specs.Execution.{Does, give}
use Rattle.definition.specs.Step.{Ended, is_bug, instruction, awake, unless_asleep}
use Rattle.instruction.specs.declared.Instruction.{Instruction}
use Rattle.bus.specs.declared.Port.{Port}
use Rattle.execution.specs.Mirror.{exec_row}
use Rattle.execution.specs.Runnable.{runnable}
use Rattle.bus.specs.Leads.{Reaches}

-- point 3: what is left of the step is to end as Halting, or points 4 to 7
abbrev pub after_halt : Bool → Does Ended Outcome
after_halt halting = if halting then give Halting else awake

abbrev pub Wakes : Cpu → Port → List ℕ → Bool → Cpu → Port → List ℕ → Type 0
Wakes s port m halting = Reaches (unless_asleep s) s port m (after_halt halting)

-- points 1 and 2 do not apply
pub record Going (s : Cpu) : Type 0 where
  pub not_stopped : s.stopped ≡ false
  pub no_transfer : s.hdma ≡ false

-- point 4: whether an interrupt is taken is asked only where IME is set
abbrev pub interrupted : Bool → (Bool → Ask Ended) → Ask Ended
interrupted ime rest = if ime then peek (λ i. rest (is_pending i)) else rest false

-- point 6, after the fetch, if HaltBug ends there: PC goes back to `at`
abbrev pub unbugged : Cpu → ℕ → Cpu
unbugged s at = if is_bug s.halt then set_halt NotHalting (set_pc at s) else s

-- points 5 and 6: what is left of the step is this instruction, fetched at `at`, which the code can run
pub record Fetches (s : Cpu) (port : Port) (m : List ℕ) (at : ℕ) (i : Instruction) (s' : Cpu) (port' : Port) (m' : List ℕ) : Type 0 where
  pub left : Reaches instruction s port m (exec_row i at) s' port' m'
  pub can_run : T (runnable i)
