-- Shows what stands in front of the byte that is found, and all where none is.
use Rattle.std.proofs.Common.{ℕ, ltb, sym, ◌∙◌, rules, tests}
use Rattle.std.proofs.lemmas.Iterator.{YieldsList-from_slice}
use Rattle.std.proofs.lemmas.Iterator.Search.{position_from_yields_List}
use Rattle.text.proofs.lines.Found.{found, not_found}
use Rattle.text.proofs.lines.until.Goals as goal

pub returns-in-Some : goal.returns-in-Some
returns-in-Some c =
    let text = c.args.text.now in
    let test = λ (b : ℕ). ltb b c.args.end in
    let told = position_from_yields_List test _ _ c.position.result c.position.ensures.ran (YieldsList-from_slice text cc) (λ x b q k. search (rules, tests)) in
    found test text c.in-Some.to (sym c.in-Some.is ∙ told)

pub returns-in-None : goal.returns-in-None
returns-in-None c =
    let text = c.args.text.now in
    let test = λ (b : ℕ). ltb b c.args.end in
    let told = position_from_yields_List test _ _ c.position.result c.position.ensures.ran (YieldsList-from_slice text cc) (λ x b q k. search (rules, tests)) in
    not_found test text (sym c.in-None.is ∙ told)
