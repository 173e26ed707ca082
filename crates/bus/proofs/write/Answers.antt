-- Shows a write: the byte stored, and one access more.
use Rattle.std.proofs.Common.{refl}
use Rattle.bus.proofs.Accesses.{has_written}
use Rattle.bus.proofs.write.Goals as goal

pub returns : goal.returns
returns c = has_written _ _ _ _ c.tick.ensures _ _ _ refl
