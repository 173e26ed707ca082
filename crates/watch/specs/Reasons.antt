-- Why a watch of a window ends: what a step did, by its outcome, by the state that it leaves, by its accesses; and the watch of one step.
use Rattle.std.specs.Prelude.{List, [], ◌∷◌, ℕ, length, if◌then◌else◌, None, Option, Some}
use Rattle.sm83.specs.declared.Cpu.{Cpu}
use Rattle.sm83.specs.State.{addr, pc}
use Rattle.outcome.specs.declared.Outcome.{Outcome}
use Rattle.outcome.specs.declared.Outcome.TheVariants as outcome
use Rattle.definition.specs.Bus.{Access, Performed, plain}
use Rattle.definition.specs.Step.{Ended, step_on}
use Rattle.definition.specs.Run.{RunAnswer, run_for}
use Rattle.routine.specs.Screen.{is_marked}
use Rattle.routine.specs.Trace.{in_window, takes_none}
use Rattle.run.specs.Answers.{run_answer}
use Rattle.watch.specs.Written.{written_by}
use Rattle.watch.specs.Demanded.{is_halted}
use Rattle.watch.specs.declared.reasons.Why.{Why}
use Rattle.watch.specs.declared.reasons.Why.TheVariants.{Strays, Refused, Stops, Halts, Interrupted, Writes}
use Rattle.watch.specs.declared.Watched.{Watched}

-- "A write counts if its address lies in the window, even with an equal value": the first that does
abbrev pub first_inside : ℕ → ℕ → List ℕ → Option Why
first_inside first n [] = None
first_inside first n (a ∷ l) = if in_window first n a then Some (Writes (addr a)) else first_inside first n l

-- "no step is refused, halts, stops or takes an interrupt": by its outcome, or else as the rest says. While HDMA runs the processor stands still, too.
abbrev pub by_outcome : Outcome → Option Why → Option Why
by_outcome outcome.Normal rest = rest
by_outcome outcome.InfiniteLoop rest = rest
by_outcome outcome.Halting rest = Some Halts
by_outcome outcome.RunningHDMA rest = Some Stops
by_outcome outcome.Stopped rest = Some Stops
by_outcome (outcome.RunningInterrupt i) rest = Some Interrupted
by_outcome (outcome.Breakpoint r) rest = rest
by_outcome (outcome.Refused r) rest = Some Refused

-- by the state that it leaves: STOP and HALT answer Normal
abbrev pub by_state : Cpu → Option Why → Option Why
by_state s rest = if s.stopped then Some Stops else (if is_halted s.halt then Some Halts else rest)

-- by its accesses: a dispatch whose interrupt is cancelled answers Normal
abbrev pub by_accesses : ℕ → ℕ → List Access → Option Why
by_accesses first n l = if takes_none l then first_inside first n (written_by l) else Some Interrupted

-- what a step did, to a window of n bytes from first on
unfoldable pub why_of : ℕ → ℕ → Performed (List ℕ) Ended → Option Why
why_of first n r = by_outcome r.value.outcome (by_state r.value.cpu (by_accesses first n r.accesses))

-- The watch of one step.
pub record WatchAnswer : Type 0 where
  pub why : Option Why
  pub ran : RunAnswer (List ℕ)

-- nothing is done
abbrev pub not_begun : Cpu → List ℕ → RunAnswer (List ℕ)
not_begun s m = record { last = None; cpu = s; memory = m; steps = 0; cycles = 0 }

-- a PC that is no marked start ends it before the step
unfoldable pub watch_on : Cpu → List ℕ → ℕ → List ℕ → WatchAnswer
watch_on s m first marks =
    if is_marked marks first (pc s)
    then (record { why = why_of first (length marks) (step_on plain s m); ran = run_for plain 1 s m })
    else (record { why = Some Strays; ran = not_begun s m })

-- the code's answer with the memory that it leaves: all of it in one equation
abbrev pub watch_answer : Watched → List ℕ → WatchAnswer
watch_answer w m = record { why = w.why; ran = run_answer w.ran m }

-- the outcome of a run of one step
abbrev pub by_last : Option Outcome → Option Why → Option Why
by_last None rest = rest
by_last (Some o) rest = by_outcome o rest
