-- Shows the lowest bit that is requested and enabled.
use Rattle.std.proofs.Common.{rules}
use Rattle.definition.specs.Bus.{pending}
use Rattle.bus.proofs.interrupts.lowest_pending.Goals as goal

pub returns : goal.returns
unfolding pending
returns c = record { seen = search rules; same = search rules }
