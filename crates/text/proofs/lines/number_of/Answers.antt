-- Shows the number where the word is, that there is none at the text's end, and one byte more.
use Rattle.std.proofs.Common.{ℕ, ◌+◌, ltb, drop, get_or, sym, ap, ◌∙◌, arith}
use Rattle.text.specs.Lines.{number_from}
use Rattle.text.proofs.lines.Found.{tested, word_here, word_passed, no_word, at_most_one}
use Rattle.text.proofs.lines.number_of.Goals as goal

pub returns-then-names : goal.returns-then-names
returns-then-names c =
    let named = tested _ _ c.loop-i.n _ c.loop-i.i c.names.ensures c.if-names.true in
    sym (word_here c.args.text.now c.args.word.now c.loop-i.n c.loop-i.starts c.loop-i.i c.loop-i-test.true named) ∙ c.loop-i.invariant.1

pub loop-i-preserved : goal.loop-i-preserved
loop-i-preserved c =
    let text = c.args.text.now in
    let word = c.args.word.now in
    let i = c.loop-i.i in
    let b = get_or text i 0 in
    let counted = ap (λ (k : ℕ). number_from (c.loop-i.n + k) (ltb b 33) (drop (i + 1) text) word) c.from-n.ensures in
    let other_word = tested _ _ c.loop-i.n _ i c.names.ensures c.if-names.false in
    let passed = word_passed text word c.loop-i.n c.loop-i.starts i c.loop-i-test.true other_word in
    (omega (arith, at_most_one (ltb b 11) c.from-n.ensures), counted ∙ passed ∙ c.loop-i.invariant.1)

pub returns : goal.returns
returns c = sym (no_word _ _ c.loop-i.n c.loop-i.starts c.loop-i.i c.loop-i-test.false) ∙ c.loop-i.invariant.1
