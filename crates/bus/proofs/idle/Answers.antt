-- Shows an idle access.
use Rattle.std.proofs.Common.{refl}
use Rattle.bus.proofs.Accesses.{has_idled}
use Rattle.bus.proofs.idle.Goals as goal

pub returns : goal.returns
returns c = has_idled _ _ _ _ c.tick.ensures refl
