-- How far a run has come, as the tool keeps it, and which run of the definition that is.
use Rattle.std.specs.Prelude.{◌≡◌, ℕ, ◌+◌, ◌-◌, ◌%◌, ◌^◌, ◌<◌, ◌≤◌, min, Bool, true, false, ◌||◌, List, nat_le, Option, Some, None, is_some, if◌then◌else◌}
use Rattle.sm83.specs.declared.Cpu.{Cpu}
use Rattle.outcome.specs.declared.Outcome.{Outcome}
use Rattle.definition.specs.Bus.{plain}
use Rattle.definition.specs.Run.{stops_last, RunAnswer, run_for}
use Rattle.run.specs.declared.Ran.{Ran}
use Rattle.phk.specs.declared.far.Cut.{Cut}
use Rattle.phk.specs.declared.far.Cut.TheVariants.{Lost}
use Rattle.phk.specs.declared.far.Far.{Far}

-- with memory as it stands, a run's answer
abbrev pub so_far : Far → List ℕ → RunAnswer (List ℕ)
so_far f m = record { last = f.last; cpu = f.cpu; memory = m; steps = f.steps; cycles = f.cycles }

-- steps and M-cycles are counted modulo 2^64
abbrev pub counted : RunAnswer (List ℕ) → RunAnswer (List ℕ)
counted r = record { last = r.last; cpu = r.cpu; memory = r.memory; steps = r.steps % 2 ^ 64; cycles = r.cycles % 2 ^ 64 }

abbrev pub begun : Cpu → Far
begun s = record { cpu = s; last = None; steps = 0; cycles = 0; cut = None }

abbrev pub is_cut : Option Cut → Bool
is_cut cut = is_some cut

-- it goes no further: it has stopped by itself, or was cut
abbrev pub is_over : Far → Bool
is_over f = stops_last f.last || is_cut f.cut

abbrev pub cut_as : Far → Option Cut → Far
cut_as f c = record { cpu = f.cpu; last = f.last; steps = f.steps; cycles = f.cycles; cut = c }

abbrev pub cut_unless : Bool → Far → Far
cut_unless written f = if written then f else cut_as f (Some Lost)

-- the last outcome of two pieces: a piece of no steps has none
abbrev pub later : Option Outcome → Option Outcome → Option Outcome
later o None = o
later o (Some p) = Some p

-- so far, and then one piece more
abbrev pub farther : Far → Ran → Far
farther f x = record { cpu = x.cpu; last = later f.last x.last; steps = (f.steps + x.steps) % 2 ^ 64; cycles = (f.cycles + x.cycles.0) % 2 ^ 64; cut = f.cut }

-- the same on answers
abbrev pub farther_by : RunAnswer (List ℕ) → RunAnswer (List ℕ) → RunAnswer (List ℕ)
farther_by r t = record { last = later r.last t.last; cpu = t.cpu; memory = t.memory; steps = (r.steps + t.steps) % 2 ^ 64; cycles = (r.cycles + t.cycles) % 2 ^ 64 }

-- a run is asked for in pieces: one step if each is looked at, as the last 64 are; else up to 65,535
pub record Piece (single : Bool) (left size : ℕ) : Type 0 where
  pub is : size ≡ (if single then 1 else (if nat_le left 64 then 1 else min (left - 64) 65535))
  pub some : 0 < size
  pub fits : size ≤ left

-- what came of a run of so many steps from a state and a memory: the run of as many of them as were done, which is all of them unless it was cut
pub record Came (steps : ℕ) (s : Cpu) (w : List ℕ) (f : Far) (m : List ℕ) : Type 0 where
  pub so_many : ℕ
  pub within : so_many ≤ steps
  pub is : so_far f m ≡ counted (run_for plain so_many s w)
  pub whole : is_cut f.cut ≡ false → so_many ≡ steps
