-- Shows that the step is done, and says why; that nothing is done at no marked start the check finds itself.
use Rattle.watch.proofs.OneStep.{stepped}
use Rattle.watch.proofs.watch.Goals as goal

pub returns : goal.returns
returns c = stepped _ _ _ _ _ c.strays-astray.ensures (cc) c.next_writes-written.result _ _ _ _ _ c.next_writes-written.ensures c.interrupts-interrupted.ensures c.by_accesses-rest.ensures c.run-ran.ensures c.why_of-why.ensures
