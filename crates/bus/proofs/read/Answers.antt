-- Shows a read: the byte, and one access more.
use Rattle.std.proofs.Common.{refl}
use Rattle.bus.proofs.Accesses.{has_read}
use Rattle.bus.proofs.read.Goals as goal

pub returns : goal.returns
returns c = has_read _ _ _ _ c.tick.ensures _ _ _ refl refl
