-- Shows point 3 and then the rest.
use Rattle.step.proofs.Stepping.{sleeps_on, steps}
use Rattle.step.proofs.running.Goals as goal

pub returns-then-halting : goal.returns-then-halting
returns-then-halting c =
    let on = c.requires in
    let wake = c.wake-w.ensures in
    let asleep = c.if-halting.true in
    record { there = sleeps_on _ _ _ on.not_stopped on.no_transfer _ _ _ _ wake.there asleep }

pub returns-else-halting : goal.returns-else-halting
returns-else-halting c =
    let on = c.requires in
    let wake = c.wake-w.ensures in
    let not_asleep = c.if-halting.false in
    let awake = c.awake.ensures in
    record { there = steps _ _ _ on.not_stopped on.no_transfer _ _ _ _ wake.there _ _ _ _ not_asleep awake.there }
