-- The tool's last word, its status, and when it is which; and what the launcher's word says.
use Rattle.std.specs.Prelude.{◌≡◌, ℕ, ◌<◌, ◌≤◌, Bool, true, false, ◌&&◌, List, length, ◌==◌, nat_eq, nat_lt, slice_index, Option, Some, None, is_none, Result, Ok, Err, if◌then◌else◌}
use Rattle.outcome.specs.declared.Refusal.{Refusal}
use Rattle.outcome.specs.declared.Outcome.{Outcome}
use Rattle.outcome.specs.declared.Outcome.TheVariants.{Normal, InfiniteLoop, Halting, RunningHDMA, Stopped, RunningInterrupt, Breakpoint, Refused}
use Rattle.sm83.specs.declared.Cpu.{Cpu}
use Rattle.definition.specs.Bus.{plain}
use Rattle.definition.specs.Run.{run_for}
use Rattle.commandline.specs.declared.grammar.Command.{Command}
use Rattle.commandline.specs.declared.grammar.Command.TheVariants as command
use Rattle.commandline.specs.declared.line.Mistake.{Mistake}
use Rattle.commandline.specs.declared.finish.Asked.{Asked}
use Rattle.commandline.specs.declared.finish.Asked.TheVariants as asked
use Rattle.phk.specs.declared.far.Cut.{Cut}
use Rattle.phk.specs.declared.far.Cut.TheVariants.{Lost, ByHand, Outside}
use Rattle.phk.specs.declared.said.Env.{Env}
use Rattle.phk.specs.declared.said.Status.{Status}
use Rattle.phk.specs.declared.said.Status.TheVariants as word

abbrev pub done : ℕ
done = 0

abbrev pub refused : ℕ
refused = 1

abbrev pub bad_usage : ℕ
bad_usage = 2

-- a file: the image cannot be read or does not hold what is asked for, --out cannot be written
abbrev pub bad_file : ℕ
bad_file = 4

-- standard output took no more
abbrev pub lost_output : ℕ
lost_output = 5

-- a person stopped it, by Ctrl-C
abbrev pub stopped_by_hand : ℕ
stopped_by_hand = 130

-- 128 and the number of the signal that ends a program whose reader goes away
abbrev pub reader_gone : ℕ
reader_gone = 141

abbrev pub status_number : Status → ℕ
status_number word.Done = done
status_number word.Refused = refused
status_number word.BadUsage = bad_usage
status_number word.BadFile = bad_file
status_number word.LostOutput = lost_output
status_number word.StoppedByHand = stopped_by_hand
status_number word.ReaderGone = reader_gone

-- the refusal that ended a step or a run, if one did
abbrev pub refusal_in : Outcome → Option Refusal
refusal_in Normal = None
refusal_in InfiniteLoop = None
refusal_in Halting = None
refusal_in RunningHDMA = None
refusal_in Stopped = None
refusal_in (RunningInterrupt i) = None
refusal_in (Breakpoint r) = None
refusal_in (Refused r) = Some r

abbrev pub refusal_of : Option Outcome → Option Refusal
refusal_of None = None
refusal_of (Some o) = refusal_in o

-- the status of what passes, or is refused
abbrev pub status_if : Bool → ℕ
status_if passes = if passes then done else refused

-- the status that a refusal stands for, or none
abbrev pub status_of : Option Refusal → ℕ
status_of refusal = status_if (is_none refusal)

-- the status of a run that was cut, or came to its end
abbrev pub status_for : Option Cut → Option Outcome → ℕ
status_for None last = status_of (refusal_of last)
status_for (Some Lost) last = lost_output
status_for (Some ByHand) last = stopped_by_hand
status_for (Some Outside) last = bad_file

-- a run that a person stopped, or whose trace was lost, leaves no file
abbrev pub keeps_file : Option Cut → Bool
keeps_file None = true
keeps_file (Some Lost) = false
keeps_file (Some ByHand) = false
keeps_file (Some Outside) = true

-- the status, unless memory could not be saved
abbrev pub unless_lost : Bool → ℕ → ℕ
unless_lost saved status = if saved then status else bad_file

-- what a command answers that runs up to so many steps: memory as the steps that were done left it; if it answers done or refused, these are all of them, and that is how the run ended
pub record Ends (steps : ℕ) (s : Cpu) (w : List ℕ) (r : ℕ) (m : List ℕ) : Type 0 where
  pub so_many : ℕ
  pub within : so_many ≤ steps
  pub memory : m ≡ (run_for plain so_many s w).memory
  pub whole : r < 2 → so_many ≡ steps
  pub status : r < 2 → r ≡ status_of (refusal_of (run_for plain so_many s w).last)

-- the status of a command that reads no image
abbrev pub Obeyed : Command → ℕ → Type 0
Obeyed command.Screen status = Unit {0}
Obeyed command.Run status = Unit {0}
Obeyed command.Step status = Unit {0}
Obeyed command.Show status = Unit {0}
Obeyed command.Demo status = status ≡ bad_usage
Obeyed command.Version status = status ≡ done
Obeyed command.Help status = status ≡ done

abbrev pub Answered : Result Asked Mistake → ℕ → Type 0
Answered (Ok (asked.Help c)) status = status ≡ done
Answered (Ok (asked.Obey c)) status = Obeyed c status
Answered (Err m) status = status ≡ bad_usage

-- The launcher's word: @, then c for colours, p for progress, s if the last word is wanted, w for lines of up to 100 columns. Without it the first word is the command line's own.

unfoldable pub stands : List ℕ → ℕ → ℕ → Bool
stands word i b = nat_lt i (length word) && slice_index word i == b

abbrev pub env : ℕ → Bool → Bool → Bool → Bool → Env
env first colour progress tells wide = record { first = first; colour = colour; progress = progress; tells = tells; wide = wide }

abbrev pub env_in : List ℕ → Env
env_in word =
    if stands word 0 64 then env 2 (stands word 1 99) (stands word 2 112) (stands word 3 115) (stands word 4 119)
    else env 1 false false false false
