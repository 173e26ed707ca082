-- Shows that the scale is positive, that one digit more leaves the text as it was, and that no digit is left at the end.
use Rattle.std.proofs.Common.{◌≡◌, ◌+◌, ◌-◌, suc, arith}
use Rattle.text.proofs.digits.Decimal.{positive, next_scale, one_digit, no_digit}
use Rattle.text.proofs.page.Page.put_decimal.Goals as goal

pub put_digit-requires : goal.put_digit-requires
put_digit-requires c = positive (20 - (c.loop.counter + 1)) (omega arith) c.loop.invariant.0

pub loop-preserved : goal.loop-preserved
loop-preserved c =
    let below = 20 - (c.loop.counter + 1) in
    let some : 20 - c.loop.counter ≡ suc below = omega arith in
    (next_scale below some c.loop.invariant.0, one_digit below some c.loop.invariant.0 c.args.n c.loop.invariant.1 c.put_digit.ensures)

pub returns : goal.returns
returns c = no_digit (20 - c.loop.counter) c.args.n (omega arith) c.loop.invariant.1
