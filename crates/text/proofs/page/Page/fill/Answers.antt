-- Shows that one byte more leaves the text as it was, and that nothing is left at the form's end.
use Rattle.std.proofs.Common.{◌≡◌, refl, ℕ, get_or, rules, ap, subst, ◌∙◌, arith}
use Rattle.std.specs.Int.{from_bool}
use Rattle.text.specs.Put.{Put}
use Rattle.text.specs.Form.{meant}
use Rattle.text.proofs.lines.Found.{at_most_one}
use Rattle.text.proofs.form.Filled.{one_byte, no_byte}
use Rattle.text.proofs.page.Page.fill.Goals as goal

pub loop-b-preserved : goal.loop-b-preserved
loop-b-preserved c =
    let form = c.args.form.now in
    let i = c.loop-b.b-index in
    let value : c.unwrap_or.result ≡ get_or c.args.values.now c.loop-b.k 0 = search rules in
    let byte = subst (λ (v : ℕ). Put c.loop-b.page c.put_meant.new.self (meant (get_or form i 0) v c.args.word.now)) value c.put_meant.ensures in
    (omega (arith, at_most_one c.takes.result c.from-k.ensures), one_byte form c.args.values.now c.args.word.now c.loop-b.k i c.loop-b.invariant.1 c.loop-b-test.true (c.from-k.ensures ∙ ap from_bool c.takes.ensures) byte)

pub returns : goal.returns
returns c =
    let told = no_byte c.args.form.now c.args.values.now c.args.word.now c.loop-b.k c.loop-b.b-index c.loop-b.invariant.1 c.loop-b-test.false in
    let same = told.same_slice in
    record { same_slice = refl; wrote = record { is = search (rules, same, told.wrote.is) } }
