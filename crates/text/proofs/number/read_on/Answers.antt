-- Shows that one byte more leaves the end as it was, that a mistake is the whole text's, and that nothing is left at its end.
use Rattle.std.proofs.Common.{◌≡◌, Err, rules, sym, ◌∙◌}
use Rattle.text.proofs.number.ByteRead.{goes_on, stops, ends}
use Rattle.text.proofs.number.read_on.Goals as goal

pub returns-in_err-r : goal.returns-in_err-r
returns-in_err-r c =
    let failed : c.from_residual.result ≡ Err c.in_err-r.field-0.0 = search rules in
    failed ∙ stops _ c.loop-b.r c.args.text.now c.loop-b.b-index c.loop-b.invariant c.loop-b-test.true (sym c.in_err-r.was ∙ c.read_byte.ensures)

pub loop-b-preserved : goal.loop-b-preserved
loop-b-preserved c =
    goes_on _ c.loop-b.r c.args.text.now c.loop-b.b-index c.loop-b.invariant c.loop-b-test.true (sym c.in_ok-r.was ∙ c.read_byte.ensures)

pub returns : goal.returns
returns c = c.ended.ensures ∙ ends _ c.loop-b.r c.args.text.now c.loop-b.b-index c.loop-b.invariant c.loop-b-test.false
