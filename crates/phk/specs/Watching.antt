-- What a run within a window comes to: which reasons end the watch, which run of the definition it was, and its status.
use Rattle.std.specs.Prelude.{◌≡◌, ℕ, ◌≤◌, Bool, true, false, not, ◌||◌, List, nat_eq, Option, Some, None, is_some, if◌then◌else◌}
use Rattle.sm83.specs.declared.Cpu.{Cpu}
use Rattle.definition.specs.Bus.{plain}
use Rattle.definition.specs.Run.{run_for}
use Rattle.watch.specs.declared.reasons.Why.{Why}
use Rattle.watch.specs.declared.reasons.Why.TheVariants.{Strays, Refused, Stops, Halts, Interrupted, Writes}
use Rattle.phk.specs.declared.far.Far.{Far}
use Rattle.sm83.specs.State.{pc}
use Rattle.routine.specs.Screen.{is_marked}
use Rattle.phk.specs.declared.within.Seen.{Seen}
use Rattle.phk.specs.SoFar.{so_far, counted, is_over}
use Rattle.phk.specs.Status.{done, refused}

abbrev pub ends_watch : Option Why → Bool
ends_watch why = is_some why

abbrev pub is_stray : Why → Bool
is_stray Strays = true
is_stray Refused = false
is_stray Stops = false
is_stray Halts = false
is_stray Interrupted = false
is_stray (Writes a) = false

-- the reason, unless the run ended by itself: after the last step, too, PC has to be a start
abbrev pub settled : Option Why → Bool → Bool → Option Why
settled why over astray = if over || ends_watch why then why else (if astray then Some Strays else why)

-- what is seen of a run that has come so far
abbrev pub seen_at : Far → Option Why → Bool → ℕ → List ℕ → Seen
seen_at f why home first marks = record { far = f; why = settled why (is_over f) (not (is_marked marks first (pc f.cpu))); home = home }

-- the run of as many steps as were done
pub record Went (steps : ℕ) (s : Cpu) (w : List ℕ) (f : Far) (m : List ℕ) : Type 0 where
  pub so_many : ℕ
  pub within : so_many ≤ steps
  pub is : so_far f m ≡ counted (run_for plain so_many s w)

-- memory as the steps that were done left it
pub record Leaves (steps : ℕ) (s : Cpu) (w m : List ℕ) : Type 0 where
  pub so_many : ℕ
  pub within : so_many ≤ steps
  pub memory : m ≡ (run_for plain so_many s w).memory

-- a routine that was left by a return is done; one that was left otherwise has lost its place; else it is the run's own status
abbrev pub status_of_watch : Option Why → Bool → ℕ → ℕ
status_of_watch None home status = status
status_of_watch (Some Strays) home status = if home then done else refused
status_of_watch (Some Refused) home status = refused
status_of_watch (Some Stops) home status = refused
status_of_watch (Some Halts) home status = refused
status_of_watch (Some Interrupted) home status = refused
status_of_watch (Some (Writes a)) home status = refused

-- a routine that the screen refuses is not done, however it ran
abbrev pub unless_refused : Bool → ℕ → ℕ
unless_refused passes status = if passes then status else (if nat_eq status 0 then refused else status)
