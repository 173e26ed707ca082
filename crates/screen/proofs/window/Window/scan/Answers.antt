-- Shows one turn of the scan: a marked address that passes the test or one that is not marked leads on, one that fails is refused.
use mathlib.Core.Path.{sym, ap, ◌∙◌}
use mathlib.Core.Bool.{not}
use Rattle.screen.proofs.window.Scanning.{unmarked, passing, failing, none_left, from_first}
use Rattle.screen.proofs.window.Window.scan.Goals as goal
use Rattle.screen.proofs.window.Window.scan.Goals.{then-start+else-not-passes, else-start}

pub loop-index-init : goal.loop-index-init
loop-index-init g c = λ test is. from_first c.args.refusal test c.args.self.now.first.0 c.args.self.now.marks.now

pub returns-then-not-passes : goal.returns-then-not-passes
returns-then-not-passes g c =
    let w = c.args.self.now in
    λ test is. sym (c.loop-index.invariant test is ∙ failing c.args.refusal test w.first.0 w.marks.now c.loop-index.index c.loop-index-test.true _ c.address-at.ensures _ (is _ _ c.passes.ensures) c.if-start.true (ap not c.if-not-passes.true))

pub loop-index-preserved : goal.loop-index-preserved
loop-index-preserved g c =
    let w = c.args.self.now in
    let more = c.loop-index-test.true in
    λ test is.
    c.loop-index.invariant test is
    ∙ elim c.if-start.branch [
      | then-start+else-not-passes b ↦ passing c.args.refusal test w.first.0 w.marks.now c.loop-index.index more _ b.address-at.ensures _ (is _ _ b.passes.ensures) (ap not b.if-not-passes.false)
      | else-start b ↦ unmarked c.args.refusal test w.first.0 w.marks.now c.loop-index.index more b.if-start.false
    ]

pub returns : goal.returns
returns g c =
    let w = c.args.self.now in
    λ test is. sym (c.loop-index.invariant test is ∙ none_left c.args.refusal test w.first.0 w.marks.now c.loop-index.index c.loop-index-test.false)
