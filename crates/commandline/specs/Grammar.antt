-- The grammar of the command line: the words of each command, what follows an option, and what a word names.
use Rattle.std.specs.Prelude.{◌≡◌, Bool, true, false, ◌||◌, List, [], ◌∷◌, ℕ, zero, suc, ◌<◌, eqb, slice_get, Option, Some, None}
use Rattle.text.specs.Page.{ascii, choose}
use Rattle.text.specs.Lines.{number_of}
use Rattle.commandline.specs.declared.grammar.Command.{Command}
use Rattle.commandline.specs.declared.grammar.Command.TheVariants.{Screen, Run, Step, Show, Demo, Version, Help}
use Rattle.commandline.specs.declared.grammar.Part.{Part}
use Rattle.commandline.specs.declared.grammar.Part.TheVariants as part
use Rattle.commandline.specs.declared.grammar.Power.{Power}
use Rattle.commandline.specs.declared.grammar.Power.TheVariants.{Dmg, Cgb, CgbDmg, Zero}
use Rattle.commandline.specs.declared.grammar.Turn.{Turn}
use Rattle.commandline.specs.declared.grammar.Turn.TheVariants.{Nothing, One, Two, Three}
use Rattle.commandline.specs.declared.grammar.Kind.{Kind}
use Rattle.commandline.specs.declared.grammar.Kind.TheVariants as kind
use Rattle.commandline.specs.declared.grammar.Kind.TheVariants.{Alone, Path, Address, Number}

-- the first of the words that are still to come, and the others
abbrev pub split_first : Turn → Option (Part × Turn)
split_first Nothing = None
split_first (One p) = Some (p, Nothing)
split_first (Two p q) = Some (p, One q)
split_first (Three p q r) = Some (p, Two q r)

-- the unnamed words of a command
abbrev pub turn_of : Command → Turn
turn_of Screen = Three part.Image part.First part.Last
turn_of Run = One part.Image
turn_of Step = One part.Image
turn_of Show = Three part.Image part.Address part.Count
turn_of Demo = Nothing
turn_of Version = Nothing
turn_of Help = One part.Topic

-- the options of a command; --within is FIRST, the first of its two addresses
abbrev pub options_of : Command → List Part
options_of Screen = part.At ∷ part.Marks ∷ part.Map ∷ part.Help ∷ []
options_of Run = part.First ∷ part.At ∷ part.State ∷ part.Pc ∷ part.Sp ∷ part.Af ∷ part.Bc ∷ part.De ∷ part.Hl ∷ part.Ime ∷ part.Ei ∷ part.Steps ∷ part.Out ∷ part.Trace ∷ part.Help ∷ []
options_of Step = part.At ∷ part.State ∷ part.Pc ∷ part.Sp ∷ part.Af ∷ part.Bc ∷ part.De ∷ part.Hl ∷ part.Ime ∷ part.Ei ∷ part.Out ∷ part.Help ∷ []
options_of Show = part.At ∷ part.Stack ∷ part.Help ∷ []
options_of Demo = part.Help ∷ []
options_of Version = part.Help ∷ []
options_of Help = part.Help ∷ []

-- the parts in a row, by which they are told apart and kept
abbrev pub place : Part → ℕ
place part.Image = 0
place part.First = 1
place part.Last = 2
place part.Address = 3
place part.Count = 4
place part.Topic = 5
place part.At = 6
place part.State = 7
place part.Pc = 8
place part.Sp = 9
place part.Af = 10
place part.Bc = 11
place part.De = 12
place part.Hl = 13
place part.Ime = 14
place part.Ei = 15
place part.Steps = 16
place part.Out = 17
place part.Marks = 18
place part.Map = 19
place part.Trace = 20
place part.Stack = 21
place part.Help = 22

abbrev pub parts : ℕ
parts = 23

-- the place of a part, which is one of the row
pub record PlaceOf (p : Part) (r : ℕ) : Type 0 where
  pub is : r ≡ place p
  pub inside : r < parts

abbrev pub is_in : ℕ → List Part → Bool
is_in n [] = false
is_in n (q ∷ qs) = eqb (place q) n || is_in n qs

abbrev pub allows : Command → Part → Bool
allows c p = is_in (place p) (options_of c)

-- the unnamed words that may be left out at the end of a line: COUNT and TOPIC
abbrev pub may_lack : Part → Bool
may_lack p = is_in (place p) (part.Count ∷ part.Topic ∷ [])

abbrev pub kind_of : Part → Kind
kind_of part.Image = Path
kind_of part.First = Address
kind_of part.Last = Address
kind_of part.Address = Address
kind_of part.Count = Number
kind_of part.Topic = kind.Command
kind_of part.At = Address
kind_of part.State = kind.Power
kind_of part.Pc = Address
kind_of part.Sp = Address
kind_of part.Af = Address
kind_of part.Bc = Address
kind_of part.De = Address
kind_of part.Hl = Address
kind_of part.Ime = Alone
kind_of part.Ei = Alone
kind_of part.Steps = Number
kind_of part.Out = Path
kind_of part.Marks = Alone
kind_of part.Map = Alone
kind_of part.Trace = Alone
kind_of part.Stack = Alone
kind_of part.Help = Alone

-- its own value comes after an option, unless it stands alone
abbrev pub own_value : Kind → Part → Turn
own_value Alone p = Nothing
own_value Path p = One p
own_value Address p = One p
own_value Number p = One p
own_value kind.Power p = One p
own_value kind.Command p = One p

-- the values that come after an option: after --within, which is FIRST, a second one
abbrev pub values_of : Part → Turn
values_of p = choose (is_in (place p) (part.First ∷ [])) (Two part.First part.Last) (own_value (kind_of p) p)

-- no value comes after the option
abbrev pub is_alone : Turn → Bool
is_alone Nothing = true
is_alone (One p) = false
is_alone (Two p q) = false
is_alone (Three p q r) = false

-- of these items, the one with a number, counted from 1: a word is looked up by the number of the line that holds it
abbrev pub named : {T : Type 0} → List T → Option ℕ → Option T
named items None = None
named items (Some zero) = None
named items (Some (suc k)) = slice_get items k

-- what the lines of a text name, in their order
abbrev pub commands : List Command
commands = Screen ∷ Run ∷ Step ∷ Show ∷ Demo ∷ Version ∷ Help ∷ []

unfoldable pub command_named : List ℕ → Option Command
command_named word = named commands (number_of (ascii "screen\nrun\nstep\nshow\ndemo\nversion --version\nhelp --help -h") word)

abbrev pub options : List Part
options = part.First ∷ part.At ∷ part.State ∷ part.Pc ∷ part.Sp ∷ part.Af ∷ part.Bc ∷ part.De ∷ part.Hl ∷ part.Ime ∷ part.Ei ∷ part.Steps ∷ part.Out ∷ part.Marks ∷ part.Map ∷ part.Trace ∷ part.Stack ∷ part.Help ∷ []

unfoldable pub option_named : List ℕ → Option Part
option_named word = named options (number_of (ascii "--within\n--at\n--state\n--pc\n--sp\n--af\n--bc\n--de\n--hl\n--ime\n--ei\n--steps\n--out\n--marks\n--map\n--trace\n--stack\n--help -h") word)

abbrev pub powers : List Power
powers = Dmg ∷ Cgb ∷ CgbDmg ∷ Zero ∷ []

unfoldable pub power_named : List ℕ → Option Power
power_named word = named powers (number_of (ascii "dmg\ncgb\ncgb-dmg\nzero") word)
