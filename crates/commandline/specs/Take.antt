-- What one word says. The first mistake stays.
use Rattle.std.specs.Prelude.{Bool, false, not, List, ℕ, eqb, ltb, length, get_or, Option, Some, None, Result, Ok, Err}
use Rattle.text.specs.Page.{choose}
use Rattle.text.specs.declared.number.Fault.{Fault}
use Rattle.text.specs.Number.{number_in}
use Rattle.text.specs.Address.{address_in}
use Rattle.commandline.specs.declared.grammar.Command.{Command}
use Rattle.commandline.specs.declared.grammar.Part.{Part}
use Rattle.commandline.specs.declared.grammar.Turn.{Turn}
use Rattle.commandline.specs.declared.grammar.Power.{Power}
use Rattle.commandline.specs.declared.grammar.Kind.{Kind}
use Rattle.commandline.specs.declared.grammar.Kind.TheVariants as kind
use Rattle.commandline.specs.declared.line.Mistake.{Mistake}
use Rattle.commandline.specs.declared.line.Mistake.TheVariants.{UnknownCommand, UnknownOption, NotHere, Twice, NoValue, TooMany, UnknownPower, BadNumber, AddressTooLarge, WordTooLong}
use Rattle.commandline.specs.declared.line.Call.{Call}
use Rattle.commandline.specs.declared.line.Stage.{Stage}
use Rattle.commandline.specs.declared.line.Stage.TheVariants.{Start, Takes, Awaits}
use Rattle.commandline.specs.declared.given.Given.{Given}
use Rattle.commandline.specs.declared.given.Given.TheVariants as given
use Rattle.commandline.specs.declared.line.Line.{Line}
use Rattle.commandline.specs.Grammar.{split_first, turn_of, allows, kind_of, values_of, is_alone, command_named, option_named, power_named}
use Rattle.commandline.specs.Given.{is_given}
use Rattle.commandline.specs.Line.{call, said_of, with_stage, kept}

-- what comes of an answer; a mistake stays
abbrev pub going_on : {A B : Type 0} → (A → Result B Mistake) → Result A Mistake → Result B Mistake
going_on f (Ok x) = f x
going_on f (Err m) = Err m

-- a number, or which part has none
abbrev pub readable : Part → ℕ → Result ℕ Fault → Result ℕ Mistake
readable p index (Ok n) = Ok n
readable p index (Err fault) = Err (BadNumber p index fault)

abbrev pub as_number : Result ℕ Mistake → Result Given Mistake
as_number = going_on (λ n. Ok (given.Number n))

abbrev pub in_range : Part → ℕ → ℕ → Result Given Mistake
in_range p index n = choose (ltb 65535 n) (Err (AddressTooLarge p index)) (Ok (given.Address n))

abbrev pub as_address : Part → ℕ → Result ℕ Mistake → Result Given Mistake
as_address p index = going_on (in_range p index)

abbrev pub as_power : Part → ℕ → Option Power → Result Given Mistake
as_power p index (Some s) = Ok (given.Power s)
as_power p index None = Err (UnknownPower p index)

abbrev pub as_topic : ℕ → Option Command → Result Given Mistake
as_topic index (Some c) = Ok (given.Command c)
as_topic index None = Err (UnknownCommand index)

-- a word as the value of a part
unfoldable pub value_in : Kind → Part → List ℕ → ℕ → Result Given Mistake
value_in kind.Alone p word index = Ok given.Alone
value_in kind.Path p word index = Ok (given.Word index)
value_in kind.Address p word index = as_address p index (readable p index (address_in word))
value_in kind.Number p word index = as_number (readable p index (number_in word))
value_in kind.Power p word index = as_power p index (power_named word)
value_in kind.Command p word index = as_topic index (command_named word)

abbrev pub take_value : Line → Stage → Part → List ℕ → ℕ → Result Line Mistake
take_value l after p word index = going_on (λ g. Ok (kept l p g after)) (value_in (kind_of p) p word index)

-- these values of an option are due
abbrev pub first_awaited : Call → Option (Part × Turn) → Stage
first_awaited k None = Takes k
first_awaited k (Some (p, more)) = Awaits k p more

unfoldable pub awaiting : Call → Turn → Stage
awaiting k values = first_awaited k (split_first values)

unfoldable pub take_option : Line → Call → Part → ℕ → Result Line Mistake
take_option l k p index =
    choose (not (allows k.command p)) (Err (NotHere index))
    (choose (is_given (said_of l p)) (Err (Twice index))
    (choose (is_alone (values_of p)) (Ok (kept l p given.Alone (Takes k))) (Ok (with_stage l (Ok (awaiting k (values_of p)))))))

unfoldable pub take_dashed : Line → Call → ℕ → Option Part → Result Line Mistake
take_dashed l k index (Some p) = take_option l k p index
take_dashed l k index None = Err (UnknownOption index)

abbrev pub take_first : Line → Command → Option (Part × Turn) → List ℕ → ℕ → Result Line Mistake
take_first l c None word index = Err (TooMany index)
take_first l c (Some (p, turn)) word index = take_value l (Takes (call c turn)) p word index

unfoldable pub take_turn : Line → Call → List ℕ → ℕ → Result Line Mistake
take_turn l k word index = take_first l k.command (split_first k.turn) word index

unfoldable pub take_command : Line → ℕ → Option Command → Result Line Mistake
take_command l index (Some c) = Ok (with_stage l (Ok (Takes (call c (turn_of c)))))
take_command l index None = Err (UnknownCommand index)

-- a word that begins with -
abbrev pub is_dashed : List ℕ → Bool
is_dashed word = choose (ltb 0 (length word)) (eqb (get_or word 0 0) 45) false

unfoldable pub take_next : Line → Call → List ℕ → ℕ → Result Line Mistake
take_next l k word index = choose (is_dashed word) (take_dashed l k index (option_named word)) (take_turn l k word index)

-- the value of an option
unfoldable pub take_awaited : Line → Stage → Part → List ℕ → ℕ → Result Line Mistake
take_awaited l after p word index = choose (is_dashed word) (Err (NoValue p)) (take_value l after p word index)

unfoldable pub take_at : Result Stage Mistake → Line → List ℕ → ℕ → Result Line Mistake
take_at (Ok Start) l word index = take_command l index (command_named word)
take_at (Ok (Takes k)) l word index = take_next l k word index
take_at (Ok (Awaits k p more)) l word index = take_awaited l (awaiting k more) p word index
take_at (Err m) l word index = Ok l

-- the line goes on, or it has its first mistake
abbrev pub taken : Line → Result Line Mistake → Line
taken l (Ok next) = next
taken l (Err m) = with_stage l (Err m)

abbrev pub take_word : Line → List ℕ → ℕ → Line
take_word l word index = taken l (take_at l.stage l word index)

-- a word that was too long to be read
unfoldable pub overlong_at : Result Stage Mistake → Line → ℕ → Line
overlong_at (Ok stage) l index = with_stage l (Err (WordTooLong index))
overlong_at (Err m) l index = l

abbrev pub take_overlong : Line → ℕ → Line
take_overlong l index = overlong_at l.stage l index
