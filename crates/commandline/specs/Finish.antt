-- The end of a command line: what it asks for, or what is wrong with it.
use Rattle.std.specs.Prelude.{◌||◌, ltb, Result, Ok, Err}
use Rattle.text.specs.Page.{choose}
use Rattle.commandline.specs.declared.grammar.Command.{Command}
use Rattle.commandline.specs.declared.grammar.Part.{Part}
use Rattle.commandline.specs.declared.grammar.Part.TheVariants as part
use Rattle.commandline.specs.declared.grammar.Turn.{Turn}
use Rattle.commandline.specs.declared.grammar.Turn.TheVariants.{Nothing, One, Two, Three}
use Rattle.commandline.specs.declared.line.Mistake.{Mistake}
use Rattle.commandline.specs.declared.line.Mistake.TheVariants.{NoCommand, NoValue, NotGiven, Reversed}
use Rattle.commandline.specs.declared.line.Call.{Call}
use Rattle.commandline.specs.declared.line.Stage.{Stage}
use Rattle.commandline.specs.declared.line.Stage.TheVariants.{Start, Takes, Awaits}
use Rattle.commandline.specs.declared.line.Line.{Line}
use Rattle.commandline.specs.declared.finish.Asked.{Asked}
use Rattle.commandline.specs.declared.finish.Asked.TheVariants.{Help, Obey}
use Rattle.commandline.specs.Grammar.{may_lack}
use Rattle.commandline.specs.Given.{is_given, address_or, command_or}
use Rattle.commandline.specs.Line.{said_of}

-- the window is the wrong way round: LAST is below FIRST
unfoldable pub ordered : Line → Command → Result Asked Mistake
ordered l c = choose (ltb (address_or (said_of l part.Last) 0) (address_or (said_of l part.First) 0)) (Err Reversed) (Ok (Obey c))

-- the last unnamed word is missing
unfoldable pub lacking : Line → Command → Part → Result Asked Mistake
lacking l c p = choose (may_lack p) (ordered l c) (Err (NotGiven p))

-- an unnamed word is missing
abbrev pub filled_by : Line → Command → Turn → Result Asked Mistake
filled_by l c Nothing = ordered l c
filled_by l c (One p) = lacking l c p
filled_by l c (Two p q) = Err (NotGiven p)
filled_by l c (Three p q r) = Err (NotGiven p)

unfoldable pub filled : Line → Call → Result Asked Mistake
filled l k = filled_by l k.command k.turn

-- --help asks for the command's help, whatever the line lacks; a topic, for that of the topic
unfoldable pub or_help : Line → Command → Result Asked Mistake → Result Asked Mistake
or_help l c asked = choose (is_given (said_of l part.Help) || is_given (said_of l part.Topic)) (Ok (Help (command_or (said_of l part.Topic) c))) asked

unfoldable pub finish_at : Result Stage Mistake → Line → Result Asked Mistake
finish_at (Ok Start) l = Err NoCommand
finish_at (Ok (Takes k)) l = or_help l k.command (filled l k)
finish_at (Ok (Awaits k p more)) l = or_help l k.command (Err (NoValue p))
finish_at (Err m) l = Err m

abbrev pub finished : Line → Result Asked Mistake
finished l = finish_at l.stage l
