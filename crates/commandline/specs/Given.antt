-- The value in what was said of a part; another value if it has none of this kind.
use Rattle.std.specs.Prelude.{Bool, ℕ, Option, Some, None, is_some}
use Rattle.commandline.specs.declared.grammar.Command.{Command}
use Rattle.commandline.specs.declared.grammar.Power.{Power}
use Rattle.commandline.specs.declared.given.Given.{Given}
use Rattle.commandline.specs.declared.given.Given.TheVariants as given
use Rattle.commandline.specs.declared.given.Given.TheVariants.{Alone, Word, Address, Number}

abbrev pub is_given : Option Given → Bool
is_given = is_some

abbrev pub word_or : Option Given → ℕ → ℕ
word_or None other = other
word_or (Some Alone) other = other
word_or (Some (Word i)) other = i
word_or (Some (Address a)) other = other
word_or (Some (Number n)) other = other
word_or (Some (given.Power s)) other = other
word_or (Some (given.Command c)) other = other

abbrev pub address_or : Option Given → ℕ → ℕ
address_or None other = other
address_or (Some Alone) other = other
address_or (Some (Word i)) other = other
address_or (Some (Address a)) other = a
address_or (Some (Number n)) other = other
address_or (Some (given.Power s)) other = other
address_or (Some (given.Command c)) other = other

abbrev pub number_or : Option Given → ℕ → ℕ
number_or None other = other
number_or (Some Alone) other = other
number_or (Some (Word i)) other = other
number_or (Some (Address a)) other = other
number_or (Some (Number n)) other = n
number_or (Some (given.Power s)) other = other
number_or (Some (given.Command c)) other = other

abbrev pub power_or : Option Given → Power → Power
power_or None other = other
power_or (Some Alone) other = other
power_or (Some (Word i)) other = other
power_or (Some (Address a)) other = other
power_or (Some (Number n)) other = other
power_or (Some (given.Power s)) other = s
power_or (Some (given.Command c)) other = other

abbrev pub command_or : Option Given → Command → Command
command_or None other = other
command_or (Some Alone) other = other
command_or (Some (Word i)) other = other
command_or (Some (Address a)) other = other
command_or (Some (Number n)) other = other
command_or (Some (given.Power s)) other = other
command_or (Some (given.Command c)) other = c
