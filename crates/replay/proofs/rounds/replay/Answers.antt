-- Shows a turn of the loop and its three ends, each by its law.
use Rattle.std.proofs.Common.{◌≡◌, not, Bool, refl, ap, ◌∙◌, arith}
use Rattle.sm83.specs.Basics.{bit}
use Rattle.replay.proofs.Differing.{in_all, one_unless, one_more, ends_cut, ends_with_rest, ends}
use Rattle.replay.proofs.rounds.replay.Goals as goal

pub returns-in_default : goal.returns-in_default
returns-in_default c =
    let file = c.args.file.now in
    let at = c.loop-i in
    in_all file c.if-file-lt2.false (c.from-count.ensures ∙ c.word_at.ensures)
    (ends_cut file at.at _ at.i at.differ at.invariant.2 c.loop-i-test.true c.in_default.ensures.size refl)

pub loop-i-preserved : goal.loop-i-preserved
loop-i-preserved c =
    let at = c.loop-i in
    let one = one_unless c.round-same.result c.from-differ.ensures in
    let some : c.in-Some.size ≡ 0 → ⊥ = λ none. omega (arith, c.in-Some.ensures.some, none) in (
      omega (arith, c.in-Some.ensures.fits),
      omega (arith, one.1),
      one_more c.args.file.now at.at _ at.i at.differ at.invariant.2 c.loop-i-test.true c.in-Some.ensures.size some (one.0 ∙ ap (λ (same : Bool). bit (not same)) c.round-same.ensures),
    )

pub returns-then-more : goal.returns-then-more
returns-then-more c =
    let file = c.args.file.now in
    let at = c.loop-i in
    in_all file c.if-file-lt2.false (c.from-count.ensures ∙ c.word_at.ensures)
    (ends_with_rest file at.at _ at.i at.differ at.invariant.2 c.loop-i-test.false c.if-more.true)

pub returns : goal.returns
returns c =
    let file = c.args.file.now in
    let at = c.loop-i in
    in_all file c.if-file-lt2.false (c.from-count.ensures ∙ c.word_at.ensures)
    (ends file at.at _ at.i at.differ at.invariant.2 c.loop-i-test.false c.if-more.false)
