-- The window that `phk screen` asks of, its verdict and its marks.
use Rattle.std.specs.Prelude.{ℕ, suc, ◌+◌, ◌-◌, ◌%◌, Bool, List, is_ok, replicate, ◌==◌, slice_index}
use Rattle.routine.specs.Verdict.{Verdict}
use Rattle.routine.specs.Screen.{screen}
use Rattle.commandline.specs.declared.grammar.Part.TheVariants.{First, Last}
use Rattle.commandline.specs.declared.line.Line.{Line}
use Rattle.commandline.specs.Given.{address_or}
use Rattle.commandline.specs.Line.{said_of}
use Rattle.phk.specs.Status.{status_if}
use Rattle.phk.specs.declared.window.Window.{Window}

abbrev pub first : Line → ℕ
first l = address_or (said_of l First) 0

abbrev pub last : Line → ℕ
last l = address_or (said_of l Last) 0

abbrev pub window_on : Line → Window
window_on l = record { first = first l; last = last l }

-- the screen is lent a mark for each byte of the window
abbrev pub verdict_on : Line → List ℕ → Verdict
verdict_on l m = (screen m (first l) (last l) (replicate (suc (last l - first l)) 0)).verdict

abbrev pub status_of_verdict : Verdict → ℕ
status_of_verdict v = status_if (is_ok v)

abbrev pub is_mark : List ℕ → ℕ → Bool
is_mark marks i = slice_index marks i == 1

-- how far an address is behind another; addresses wrap
abbrev pub behind : ℕ → ℕ → ℕ
behind a first = (a + 65536 - first) % 65536
