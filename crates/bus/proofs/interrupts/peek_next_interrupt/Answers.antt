-- Shows what peeking sees.
use Rattle.bus.proofs.Accesses.{has_peeked}
use Rattle.bus.proofs.interrupts.peek_next_interrupt.Goals as goal

pub returns : goal.returns
returns c = let look = c.lowest_pending.ensures in has_peeked _ _ _ look.seen look.same
