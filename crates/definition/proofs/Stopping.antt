-- "it stops early only after InfiniteLoop, Breakpoint, Stopped or a refusal": the outcomes that stop a run, in the document's words.
use Rattle.sm83.specs.declared.CpuRegisters.{CpuRegisters}
use Rattle.outcome.specs.declared.Refusal.{Refusal}
use Rattle.outcome.specs.declared.Outcome.{Outcome}
use Rattle.outcome.specs.declared.Outcome.TheVariants.{Normal, InfiniteLoop, Halting, RunningHDMA, Stopped, RunningInterrupt, Breakpoint, Refused}
use lib.Dec.{T}
use Rattle.definition.specs.Run.{stops_run}

pub data Stopping : Outcome → Type 0 where
  infinite_loop : Stopping InfiniteLoop
  breakpoint : (r : CpuRegisters) → Stopping (Breakpoint r)
  stopped : Stopping Stopped
  a_refusal : (r : Refusal) → Stopping (Refused r)

pub only_after : (o : Outcome) → T (stops_run o) → Stopping o
only_after Normal t = absurd t
only_after InfiniteLoop t = infinite_loop
only_after Halting t = absurd t
only_after RunningHDMA t = absurd t
only_after Stopped t = stopped
only_after (RunningInterrupt i) t = absurd t
only_after (Breakpoint r) t = breakpoint r
only_after (Refused r) t = a_refusal r

pub and_always : {o : Outcome} → Stopping o → T (stops_run o)
and_always infinite_loop = tt
and_always (breakpoint r) = tt
and_always stopped = tt
and_always (a_refusal r) = tt
