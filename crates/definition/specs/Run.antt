-- Repeated steps, and the run with its budget.
use Rattle.std.specs.Prelude.{Bool, true, false, ℕ, zero, suc, ◌+◌, if◌then◌else◌, None, Option, Some}
use Rattle.sm83.specs.declared.Cpu.{Cpu}
use Rattle.outcome.specs.declared.Refusal.{Refusal}
use Rattle.outcome.specs.declared.Outcome.{Outcome}
use Rattle.outcome.specs.declared.Outcome.TheVariants.{Normal, InfiniteLoop, Halting, RunningHDMA, Stopped, RunningInterrupt, Breakpoint, Refused}
use Rattle.definition.specs.Bus.{Bus, Performed, mcycles}
use Rattle.definition.specs.Step.{Ended, Admission, accepted, refused_as, admission, step_on}

-- "it stops early only after InfiniteLoop, Breakpoint, Stopped or a refusal"
abbrev pub stops_run : Outcome → Bool
stops_run Normal = false
stops_run InfiniteLoop = true
stops_run Halting = false
stops_run RunningHDMA = false
stops_run Stopped = true
stops_run (RunningInterrupt i) = false
stops_run (Breakpoint r) = true
stops_run (Refused r) = true

-- a run whose last outcome is this one goes no further; one of which nothing has been run goes on
abbrev pub stops_last : Option Outcome → Bool
stops_last None = false
stops_last (Some o) = stops_run o

-- "It answers the last outcome ("nothing run" for budget 0), steps done and M-cycles spent."
pub record RunAnswer (W : Type 0) : Type 0 where
  pub last : Option Outcome
  pub cpu : Cpu
  pub memory : W
  pub steps : ℕ
  pub cycles : ℕ

-- one step, and then what the rest came to
abbrev pub then_rest : {W : Type 0} → ℕ → RunAnswer W → RunAnswer W
then_rest c rest = record { last = rest.last; cpu = rest.cpu; memory = rest.memory; steps = suc rest.steps; cycles = c + rest.cycles }

-- up to so many steps, after an earlier outcome
unfoldable pub repeated : {W : Type 0} → Bus W → Option Outcome → ℕ → Cpu → W → RunAnswer W
repeated b o zero s m = record { last = o; cpu = s; memory = m; steps = 0; cycles = 0 }
repeated {W} b o (suc budget) s m =
    let r : Performed W Ended = step_on b s m in
    let rest : RunAnswer W = repeated b (Some r.value.outcome) budget r.value.cpu r.memory in
    if stops_run r.value.outcome
    then (record { last = Some r.value.outcome; cpu = r.value.cpu; memory = r.memory; steps = 1; cycles = mcycles r.accesses })
    else then_rest (mcycles r.accesses) rest

abbrev pub not_run : {W : Type 0} → Refusal → Cpu → W → RunAnswer W
not_run r s m = record { last = Some (Refused r); cpu = s; memory = m; steps = 0; cycles = 0 }

abbrev pub admitted_run : {W : Type 0} → Admission → Bus W → ℕ → Cpu → W → RunAnswer W
admitted_run accepted b budget s m = repeated b None budget s m
admitted_run (refused_as r) b budget s m = not_run r s m

-- What a run answers. "Step and run test 1, then 2, also with budget 0"; a step that 1 or 2 refuses is not done, and does not count.
unfoldable pub run_for : {W : Type 0} → Bus W → ℕ → Cpu → W → RunAnswer W
run_for b budget s m = admitted_run (admission b s m) b budget s m
