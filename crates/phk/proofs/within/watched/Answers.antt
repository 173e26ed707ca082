-- Shows the run by what is kept on the way; before a step PC is a marked start, by the test.
use Rattle.std.proofs.Common.{◌≡◌, Bool, true, false, ◌||◌, sym, ap, ◌∙◌, arith, rules}
use borrow.Author.Tests.{not-false}
use Rattle.sm83.specs.State.{pc}
use Rattle.routine.specs.Screen.{is_marked}
use Rattle.phk.specs.declared.far.Far.{Far}
use Rattle.phk.specs.SoFar.{is_over}
use Rattle.phk.proofs.Going.{is_looked_at, stops_not, goes_on}
use Rattle.phk.proofs.within.watched.Goals as goal

second_not : (a b : Bool) → (a || b) ≡ false → b ≡ false
second_not true b e = let z : ◌≡◌ {A = Bool} true false = e in cc
second_not false b e = e

pub watched_step-s-requires : goal.watched_step-s-requires
watched_step-s-requires c =
    ap (λ (g : Far). is_marked c.args.marks.now c.args.first.0 (pc g.cpu)) c.looked-f.ensures
    ∙ not-false _ (sym c.strays-astray.ensures ∙ second_not (c.over.result || c.ends_watch.result) c.strays-astray.result c.if-over-ends_watch.false)

pub loop-left-preserved : goal.loop-left-preserved
loop-left-preserved c =
    let on : is_over c.looked-f.result ≡ false = search rules in (
      goes_on _ _ _ _ _ _ (is_looked_at _ _ _ _ _ _ c.loop-left.invariant.0 _ c.looked-f.ensures) 1 _ _
          (omega (arith, c.loop-left-test.true)) (stops_not c.looked-f.result on) c.watched_step-s.ensures.mem_after c.watched_step-s.auto.mem,
      omega (arith, c.loop-left.invariant.1, c.note.auto.pcs),
    )
