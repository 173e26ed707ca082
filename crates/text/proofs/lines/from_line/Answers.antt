-- Shows the text from the line on where it starts, one byte more, and that nothing is left at the text's end.
use Rattle.std.proofs.Common.{sym, ◌∙◌}
use Rattle.text.proofs.lines.Found.{over, rest, line_starts, line_passes, text_ends}
use Rattle.text.proofs.lines.from_line.Goals as goal

pub returns-then-left-eq0 : goal.returns-then-left-eq0
returns-then-left-eq0 c =
    rest _ c.loop-i.i ∙ (line_starts _ c.loop-i.i c.loop-i.left _ c.loop-i.invariant c.loop-i-test.true c.if-left-eq0.true).leaves

pub loop-i-preserved : goal.loop-i-preserved
loop-i-preserved c =
    line_passes _ c.loop-i.i c.loop-i.left _ _ c.loop-i.invariant c.loop-i-test.true c.if-left-eq0.false c.from-left.ensures

pub returns : goal.returns
returns c =
    sym (over _ c.loop-i.i c.loop-i-test.false) ∙ (text_ends _ c.loop-i.i c.loop-i.left _ c.loop-i.invariant c.loop-i.auto.i-end c.loop-i-test.false).leaves
