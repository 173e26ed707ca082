-- Shows two bytes at PC: one after the other, by one law.
use Rattle.definition.specs.Execution.{imm8}
use Rattle.bus.proofs.Parts.{two_bytes}
use Rattle.bus.proofs.fetch.fetch16.Goals as goal

pub returns : goal.returns
unfolding imm8
returns c =
    let low = c.fetch_next_pc-x.ensures in
    let high = c.fetch_next_pc-y.ensures in
    let word = c.pair.ensures in
    record { there = two_bytes _ _ _ _ _ _ _ _ _ _ _ _ low.there high.there word }
