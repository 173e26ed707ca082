-- Shows DAA: what is added, or taken away after a subtraction, weighs as the definition says.
use Rattle.std.proofs.Common.{sym, ◌∙◌}
use Rattle.opcodes.specs.Arithmetic.{daa}
use Rattle.arithmetic.proofs.decimal.daa.Goals as goal

pub returns-then-n : goal.returns-then-n
unfolding daa
returns-then-n c =
    let after_a_difference = sym c.flag_n-n.ensures ∙ c.if-n.true in
    simp (c.adjusted.ensures, c.weight-2.ensures.is, c.weight.ensures.is, c.flag_c-c.ensures, c.flag_h-h.ensures, c.if-n.true, after_a_difference)

pub returns-else-n : goal.returns-else-n
unfolding daa
returns-else-n c =
    let after_a_sum = sym c.flag_n-n.ensures ∙ c.if-n.false in
    simp (c.adjusted-else-n.ensures, c.weight-2.ensures.is, c.weight.ensures.is, c.flag_c-c.ensures, c.flag_h-h.ensures, c.if-n.false, after_a_sum)
