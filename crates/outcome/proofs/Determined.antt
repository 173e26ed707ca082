-- The contracts of the methods leave one answer to every input.
use mathlib.Core.Path.{sym, ◌∙◌}
use Rattle.sm83.proofs.OneAnswer.{OneAnswer}
use Rattle.outcome.proofs.interrupt.InterruptType.number.Reads as InterruptType-number
use Rattle.outcome.proofs.interrupt.is_pending.Reads as is-pending
use Rattle.outcome.proofs.Refusal.number.Reads as Refusal-number
use Rattle.outcome.proofs.Outcome.number.Reads as Outcome-number
use Rattle.outcome.proofs.last_number.Reads as last-number

pub InterruptType-number-determined : OneAnswer InterruptType-number.Post
InterruptType-number-determined κs input v w left other p q = p ∙ sym q

pub is-pending-determined : OneAnswer is-pending.Post
is-pending-determined κs input v w left other p q = p ∙ sym q

pub Refusal-number-determined : OneAnswer Refusal-number.Post
Refusal-number-determined κs input v w left other p q = p ∙ sym q

pub Outcome-number-determined : OneAnswer Outcome-number.Post
Outcome-number-determined κs input v w left other p q = p ∙ sym q

pub last-number-determined : OneAnswer last-number.Post
last-number-determined κs input v w left other p q = p ∙ sym q
