-- Shows the address by the end that is found, or by none.
use Rattle.std.proofs.Common.{ap, ◌∙◌}
use Rattle.text.specs.Address.{hex_in, decimal_in}
use Rattle.text.proofs.address.Mark.{not_empty, by_dollar_sign, by_small_x, by_large_x, by_dot, by_none_of_these}
use Rattle.text.proofs.address.address_in.Goals as goal

pub returns-in-Some : goal.returns-in-Some
returns-in-Some c =
    let some = not_empty _ c.is_empty.ensures c.if-is_empty.false in
    let found = c.in-Some.ensures.cases in
    c.hex_in.ensures ∙ ap hex_in found.1 ∙ by_dollar_sign _ some found.0

pub returns-in-Some-strip_prefix : goal.returns-in-Some-strip_prefix
returns-in-Some-strip_prefix c =
    let some = not_empty _ c.is_empty.ensures c.if-is_empty.false in
    let found = c.in-Some-strip_prefix.ensures.cases in
    c.hex_in-in-Some-strip_prefix.ensures ∙ ap hex_in found.1 ∙ by_small_x _ some c.in_default.ensures.cases found.0

pub returns-in-Some-strip_prefix-2 : goal.returns-in-Some-strip_prefix-2
returns-in-Some-strip_prefix-2 c =
    let some = not_empty _ c.is_empty.ensures c.if-is_empty.false in
    let found = c.in-Some-strip_prefix-2.ensures.cases in
    c.hex_in-in-Some-strip_prefix-2.ensures ∙ ap hex_in found.1 ∙ by_large_x _ some c.in_default.ensures.cases found.0

pub returns-in-Some-strip_suffix : goal.returns-in-Some-strip_suffix
returns-in-Some-strip_suffix c =
    let some = not_empty _ c.is_empty.ensures c.if-is_empty.false in
    let found = c.in-Some-strip_suffix.ensures.cases in
    c.decimal_in.ensures ∙ ap decimal_in found.1 ∙ by_dot _ some c.in_default.ensures.cases c.in_default-strip_prefix.ensures.cases c.in_default-strip_prefix-2.ensures.cases found.0

pub returns : goal.returns
returns c =
    let some = not_empty _ c.is_empty.ensures c.if-is_empty.false in
    c.plain_in.ensures ∙ by_none_of_these _ some c.in_default.ensures.cases c.in_default-strip_prefix.ensures.cases c.in_default-strip_prefix-2.ensures.cases c.in_default-strip_suffix.ensures.cases
