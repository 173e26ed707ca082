-- Shows the byte at PC and PC past it: the callees' answers, by one law.
use Rattle.bus.proofs.Parts.{byte_at_pc_lem}
use Rattle.bus.proofs.fetch.fetch_next_pc.Goals as goal

pub returns : goal.returns
returns c =
    let read = c.read-got.ensures in
    let past = c.wrapping_add-after.ensures in
    record { there = byte_at_pc_lem _ _ _ _ _ _ _ _ read past }
