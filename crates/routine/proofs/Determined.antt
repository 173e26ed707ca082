-- The contracts of the `number` methods and of `verdict_number` leave one answer to every input.
use mathlib.Core.Path.{sym, ◌∙◌}
use Rattle.sm83.proofs.OneAnswer.{OneAnswer}
use Rattle.routine.proofs.ScreenRefusal.number.Reads as ScreenRefusal-number
use Rattle.routine.proofs.Finding.number.Reads as Finding-number
use Rattle.routine.proofs.verdict_number.Reads as Verdict-number

pub ScreenRefusal-number-determined : OneAnswer ScreenRefusal-number.Post
ScreenRefusal-number-determined κs input v w left other p q = p ∙ sym q

pub Finding-number-determined : OneAnswer Finding-number.Post
Finding-number-determined κs input v w left other p q = p ∙ sym q

pub Verdict-number-determined : OneAnswer Verdict-number.Post
Verdict-number-determined κs input v w left other p q = p ∙ sym q
