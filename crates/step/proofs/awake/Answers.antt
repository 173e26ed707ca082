-- Shows points 4 to 7.
use Rattle.step.proofs.Stepping.{awake_dispatches, awake_runs}
use Rattle.step.proofs.awake.Goals as goal

pub returns-then-called : goal.returns-then-called
returns-then-called c =
    let called = c.is_interrupted-called.ensures in
    let dispatch = c.dispatch.ensures in
    record { there = awake_dispatches _ _ _ _ _ _ _ _ _ called c.if-called.true dispatch.there }

pub returns-else-called : goal.returns-else-called
returns-else-called c =
    let called = c.is_interrupted-called.ensures in
    let run = c.run_one.ensures in
    record { there = awake_runs _ _ _ _ _ _ _ _ _ called c.if-called.false run.there }
