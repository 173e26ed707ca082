-- Shows that the digits still to come, written now, would make the whole number; the scale is a tenth of their power of ten.
use Rattle.std.proofs.Common.{◌≡◌, ◌-◌, ◌/◌, ◌^◌}
use Rattle.text.specs.Digits.{digits_below}
use Rattle.text.proofs.page.Written.{Leads}
use Rattle.text.proofs.page.Page.put_decimal.Given as goal

abbrev pub invariant-loop : goal.invariant-loop
invariant-loop l =
    (l.scale ≡ 10 ^ (20 - l.counter) / 10) × Leads l.fn.self (digits_below 20 l.n) l.self (digits_below (20 - l.counter) l.n)
