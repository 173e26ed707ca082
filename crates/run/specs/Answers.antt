-- What pins the answer of a run and of a step: the outcome, the state, every byte, the M-cycles; of a run the steps, too.
use Rattle.std.specs.Prelude.{◌≡◌, List, ℕ, None, Option, Some}
use Rattle.sm83.specs.declared.Cpu.{Cpu}
use Rattle.outcome.specs.declared.Outcome.{Outcome}
use Rattle.outcome.specs.declared.Outcome.TheVariants.{Normal}
use Rattle.definition.specs.Bus.{plain, mcycles}
use Rattle.definition.specs.Step.{step_on}
use Rattle.definition.specs.Run.{RunAnswer}
use Rattle.run.specs.declared.Ran.{Ran}
use Rattle.run.specs.declared.Stepped.{Stepped}

-- the code's answer to a run with the memory that it leaves, as the definition's: all of it in one equation
abbrev pub run_answer : Ran → List ℕ → RunAnswer (List ℕ)
run_answer r m = record { last = r.last; cpu = r.cpu; memory = m; steps = r.steps; cycles = r.cycles.0 }

-- the outcome of a run of one step; such a run is never one of which nothing is run
abbrev pub outcome_of : Option Outcome → Outcome
outcome_of None = Normal
outcome_of (Some o) = o

-- a step's answer is pinned by its outcome and state, its memory and the length of its list of accesses
pub record StepAnswers (s : Cpu) (m : List ℕ) (r : Stepped) (m' : List ℕ) : Type 0 where
  pub outcome : r.outcome ≡ (step_on plain s m).value.outcome
  pub cpu : r.cpu ≡ (step_on plain s m).value.cpu
  pub memory : m' ≡ (step_on plain s m).memory
  pub cycles : r.cycles.0 ≡ mcycles (step_on plain s m).accesses
