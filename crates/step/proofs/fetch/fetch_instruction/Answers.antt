-- Shows points 5 and 6: the latch, one byte or two, and the instruction that they stand for. That registers and bytes are bytes is what their types tell.
use native.Mathlib.Omega.{arith}
use Rattle.step.proofs.Fetching.{fetches_unprefixed, fetches_prefixed}
use Rattle.step.proofs.fetch.fetch_instruction.Goals as goal

pub returns-then-x : goal.returns-then-x
returns-then-x c =
    let latch = c.enable-c.ensures in
    let first = c.fetch_next_pc-x.ensures in
    let unbug = c.unbug-s.ensures in
    let second = c.fetch_next_pc-y in
    let read = second.ensures in
    fetches_prefixed _ _ _ _ _ _ _ _ latch first.there _ _ unbug _ _ _ _ c.if-x.true read.there
    (omega (arith, second.type_inv)) c.from_prefix.ensures c.fits-mem (omega (arith, second.type_inv))

pub returns : goal.returns
returns c =
    let latch = c.enable-c.ensures in
    let first = c.fetch_next_pc-x in
    let read = first.ensures in
    let unbug = c.unbug-s in
    fetches_unprefixed _ _ _ _ _ _ _ _ latch read.there _ _ unbug.ensures (omega (arith, first.type_inv))
    c.if-x.false c.from_byte.ensures c.fits-mem (omega (arith, unbug.type_inv))
