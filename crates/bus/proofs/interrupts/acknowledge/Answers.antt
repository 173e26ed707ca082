-- Shows that one bit alone is cleared: the one that the interrupt's number says.
use Rattle.std.proofs.Common.{set, ap, rules}
use Rattle.definition.specs.Bus.{byte_at}
use Rattle.bus.proofs.Taking.{its_bit, its_bit_cleared}
use Rattle.bus.proofs.interrupts.acknowledge.Goals as goal

pub overflow_shl-mem : goal.overflow_shl-mem
overflow_shl-mem c = its_bit c.args.interrupt c.number-n.ensures

pub returns : goal.returns
returns c =
    let args = c.args in
    let its-number = c.number-n.ensures in
    let cleared = its_bit_cleared args.interrupt (byte_at args.mem.now 0xff0f) its-number (search rules) in
    record { left = ap (set args.mem.now 0xff0f) cleared }
