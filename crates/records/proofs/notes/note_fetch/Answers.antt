-- Shows the counts by the place of the opcode: none, of the first table, or after CB.
use Rattle.std.proofs.Common.{◌∙◌}
use Rattle.records.proofs.Noting.{none_noted, plain_noted, after_noted, as_told}
use Rattle.records.proofs.notes.note_fetch.Goals as goal

pub returns-in_default : goal.returns-in_default
returns-in_default c =
    let standing = rw c.unwrap-state.ensures at c.as_array.ensures.cases in
    none_noted c.args.counts.now c.told-counts ∙ as_told c.args.item.bytes.now c.args.counts.now c.told-mem c.lay.ensures standing.same c.in_default.ensures.place

pub returns-then-place-ge256 : goal.returns-then-place-ge256
returns-then-place-ge256 c =
    let standing = rw c.unwrap-state.ensures at c.as_array.ensures.cases in
    after_noted c.in-Some.place c.args.counts.now c.count.ensures c.if-place-ge256.true c.in-Some.ensures.small c.count-then-place-ge256.ensures
    ∙ as_told c.args.item.bytes.now c.args.counts.now c.told-mem c.lay.ensures standing.same c.in-Some.ensures.place

pub returns-else-place-ge256 : goal.returns-else-place-ge256
returns-else-place-ge256 c =
    let standing = rw c.unwrap-state.ensures at c.as_array.ensures.cases in
    plain_noted c.in-Some.place c.args.counts.now c.count.ensures c.if-place-ge256.false
    ∙ as_told c.args.item.bytes.now c.args.counts.now c.told-mem c.lay.ensures standing.same c.in-Some.ensures.place
