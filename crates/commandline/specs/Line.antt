-- What the words of a command line have said so far: which word may come next, or the first mistake, and what was said of each part.
use Rattle.std.specs.Prelude.{List, get_or, set, replicate, Option, Some, None, Result, Ok}
use Rattle.commandline.specs.declared.grammar.Command.{Command}
use Rattle.commandline.specs.declared.grammar.Part.{Part}
use Rattle.commandline.specs.declared.grammar.Turn.{Turn}
use Rattle.commandline.specs.declared.line.Call.{Call}
use Rattle.commandline.specs.declared.line.Mistake.{Mistake}
use Rattle.commandline.specs.declared.line.Stage.{Stage}
use Rattle.commandline.specs.declared.line.Stage.TheVariants.{Start}
use Rattle.commandline.specs.declared.given.Given.{Given}
use Rattle.commandline.specs.declared.line.Line.{Line}
use Rattle.commandline.specs.Grammar.{place, parts}

abbrev pub call : Command → Turn → Call
call command turn = record { command = command; turn = turn }

abbrev pub line : Result Stage Mistake → List (Option Given) → Line
line stage given = record { stage = stage; given = given }

abbrev pub empty : Line
empty = line (Ok Start) (replicate parts None)

abbrev pub said_of : Line → Part → Option Given
said_of l p = get_or l.given (place p) None

abbrev pub with_stage : Line → Result Stage Mistake → Line
with_stage l stage = line stage l.given

abbrev pub kept : Line → Part → Given → Stage → Line
kept l p g stage = line (Ok stage) (set l.given (place p) (Some g))
