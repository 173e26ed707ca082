-- Shows the push that takes: the write, then the take.
use Rattle.bus.proofs.Accesses.{has_taken}
use Rattle.bus.proofs.interrupts.write_and_take.Goals as goal

pub returns : goal.returns
returns c =
    let push = c.write-p.ensures in
    let take = c.take_next_interrupt-next.ensures in
    has_taken _ _ _ _ _ _ _ _ push take.seen take.left
