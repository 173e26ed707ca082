-- A call of `screen`, `step` or `run`: what it was given, what it answered and left, and that it meets the contract AS THE SOURCE STATES IT (`Post` is made from the source). The promises speak of such calls, whatever code made them.
use mathlib.Core.Path.{◌≡◌}
use mathlib.Core.List.{List}
use Prim.Native.Nat.{ℕ}
use Rattle.sm83.specs.declared.Cpu.{Cpu}
use Rattle.routine.specs.Verdict.{Verdict}
use Rattle.definition.specs.Bus as Bus
use Rattle.definition.specs.Bus.{plain, mcycles}
use Rattle.definition.specs.Step.{Ended, step_on}
use Rattle.definition.specs.Run.{RunAnswer, run_for}
use Rattle.routine.specs.Screen.{screen}
use Rattle.run.specs.declared.Ran.{Ran}
use Rattle.run.specs.Answers.{run_answer}
use Rattle.run.specs.declared.Stepped.{Stepped}
use Rattle.screen.proofs.screen.Reads as the_screen
use Rattle.run.proofs.step.Reads as the_step
use Rattle.run.proofs.run.Reads as the_run

-- `screen(mem, first, last, marks)`
pub record ScreenCall : Type 0 where
  pub lifetimes : _
  pub input : _
  pub verdict : Verdict
  pub left : _
  pub conforms : the_screen.Post lifetimes input verdict left

module _ (c : ScreenCall) where
  abbrev pub screened : List ℕ
  screened = c.input.0.now

  abbrev pub first_of : ℕ
  first_of = c.input.1.0.0

  abbrev pub last_of : ℕ
  last_of = c.input.1.1.0.0

  abbrev pub lent_marks : List ℕ
  lent_marks = c.input.1.1.1.0.now

  abbrev pub marks_left : List ℕ
  marks_left = c.left.1.1.1.0.now

  pub verdict_is : c.verdict ≡ (screen screened first_of last_of lent_marks).verdict
  verdict_is = c.conforms.verdict

  pub marks_are : marks_left ≡ (screen screened first_of last_of lent_marks).marks
  marks_are = c.conforms.marks

-- `step(cpu, mem)`
pub record StepCall : Type 0 where
  pub lifetimes : _
  pub input : _
  pub stepped : Stepped
  pub left : _
  pub conforms : the_step.Post lifetimes input stepped left

module _ (c : StepCall) where
  abbrev pub state_given : Cpu
  state_given = c.input.0

  abbrev pub memory_given : List ℕ
  memory_given = c.input.1.0.now

  abbrev pub memory_left : List ℕ
  memory_left = c.left.1.0.now

  -- what the definition's step answers
  abbrev defined : Bus.Performed (List ℕ) Ended
  defined = step_on plain state_given memory_given

  pub outcome_is : c.stepped.outcome ≡ defined.value.outcome
  outcome_is = c.conforms.outcome

  pub state_is : c.stepped.cpu ≡ defined.value.cpu
  state_is = c.conforms.cpu

  pub memory_is : memory_left ≡ defined.memory
  memory_is = c.conforms.memory

  pub cycles_are : c.stepped.cycles.0 ≡ mcycles defined.accesses
  cycles_are = c.conforms.cycles

-- `run(cpu, mem, budget)`
pub record RunCall : Type 0 where
  pub lifetimes : _
  pub input : _
  pub ran : Ran
  pub left : _
  pub conforms : the_run.Post lifetimes input ran left

module _ (c : RunCall) where
  abbrev pub state_run : Cpu
  state_run = c.input.0

  abbrev pub memory_run : List ℕ
  memory_run = c.input.1.0.now

  abbrev pub budget_of : ℕ
  budget_of = c.input.1.1.0

  -- its answer with the memory that it leaves
  abbrev pub answered : RunAnswer (List ℕ)
  answered = run_answer c.ran c.left.1.0.now

  pub run_answers : answered ≡ run_for plain budget_of state_run memory_run
  run_answers = c.conforms
