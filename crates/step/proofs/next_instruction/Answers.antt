-- Shows the step: points 1 and 2, and then the rest.
use Rattle.step.proofs.Stepping.{stops, transfers}
use Rattle.step.proofs.next_instruction.Goals as goal

pub returns-then-stopped : goal.returns-then-stopped
returns-then-stopped c =
    let stopped = c.if-stopped.true in
    let idle = c.idle-p.ensures in
    record { there = stops _ _ _ _ _ stopped idle }

pub returns-then-hdma : goal.returns-then-hdma
returns-then-hdma c =
    let not_stopped = c.if-stopped.false in
    let transfer = c.if-hdma.true in
    let idle = c.idle-p-then-hdma.ensures in
    record { there = transfers _ _ _ not_stopped _ _ transfer idle }

pub running-requires : goal.running-requires
running-requires c =
    record { not_stopped = c.if-stopped.false; no_transfer = c.if-hdma.false }

pub returns : goal.returns
returns c = c.running.ensures
