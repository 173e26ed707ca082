-- Whether an outcome is a refusal.
use mathlib.Core.Bool.{Bool, true, false}
use Rattle.outcome.specs.declared.Outcome.{Outcome}
use Rattle.outcome.specs.declared.Outcome.TheVariants.{Normal, InfiniteLoop, Halting, RunningHDMA, Stopped, RunningInterrupt, Breakpoint, Refused}

abbrev pub is_refused : Outcome → Bool
is_refused Normal = false
is_refused InfiniteLoop = false
is_refused Halting = false
is_refused RunningHDMA = false
is_refused Stopped = false
is_refused (RunningInterrupt i) = false
is_refused (Breakpoint r) = false
is_refused (Refused r) = true
