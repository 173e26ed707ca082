-- Shows taking: one where there is one, by the laws of taking.
use Rattle.std.proofs.Common.{sym, ◌∙◌}
use Rattle.bus.proofs.Taking.{one_taken, none_taken}
use Rattle.bus.proofs.interrupts.take_next_interrupt.Goals as goal

pub returns-in-None : goal.returns-in-None
returns-in-None c =
    let look = c.lowest_pending-next.ensures in
    let none_pending = c.in-None.is in
    record { seen = look.seen; left = look.same ∙ none_taken _ _ look.seen none_pending }

pub returns-in-Some : goal.returns-in-Some
returns-in-Some c =
    let clear = c.acknowledge.ensures in
    let pending = c.in-Some.is in
    let look = c.lowest_pending-next.ensures in
    record {
      seen = sym pending ∙ look.seen;
      left = rw (← look.same) (one_taken _ _ _ _ (rw look.same look.seen) pending clear.left);
    }
