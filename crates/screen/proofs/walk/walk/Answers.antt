-- Shows each way out of the walk, as a law of how far it has come.
use mathlib.Core.Path.{◌≡◌, refl, sym, ap, ◌∙◌}
use mathlib.Core.List.{List}
use Prim.Native.Nat.{ℕ}
use native.Mathlib.Omega.{arith}
use lib.ListN.{length, replicate}
use Rattle.routine.specs.Verdict.{Verdict}
use Rattle.routine.specs.Screen.{marks_after}
use Rattle.screen.specs.Parts.{walked, Finds}
use Rattle.screen.proofs.walk.Reached.{begun, ended}
use Rattle.screen.proofs.walk.Turn.{Turn, turn_7, turn_8, turn_on}
use Rattle.screen.proofs.walk.walk.Goals as goal

-- the loop counts the marks that were cleared: as many as came
sized : {m : List ℕ} {first n k : ℕ} {r : Verdict} {left : List ℕ} → n ≡ k → Finds walked m first n r left → Finds walked m first k r left
sized {m} {first} {r = r} e w = record { finding = w.finding ∙ ap (walked m first) e; marks = w.marks ∙ ap (marks_after r m first) e }

pub loop-at-init : goal.loop-at-init
loop-at-init c = begun c.args.mem.now c.args.first.0 (length c.fill.new.self) c.fill.new.self refl (c.fill.ensures.after (λ y same. same) ∙ ap (λ (j : ℕ). replicate j 0) (sym c.fill.ensures.len))

pub returns-then-forbidden : goal.returns-then-forbidden
returns-then-forbidden c =
    let turn : Turn c.args.mem.now c.args.first.0 (length c.fill.new.self) c.loop-at.at c.loop-at.marks c.address-here.result c.shape_at-length.result c.is_forbidden-forbidden.result = record { reached = c.loop-at.invariant; more = c.loop-at-test.true; there = c.address-here.ensures; read = c.shape_at-length.ensures; told = c.is_forbidden-forbidden.ensures } in
    sized c.fill.ensures.len (turn_7 turn c.if-forbidden.true (c.fill-then-forbidden.ensures.after (λ y same. same)))

pub returns-then-too_long : goal.returns-then-too_long
returns-then-too_long c =
    let turn : Turn c.args.mem.now c.args.first.0 (length c.fill.new.self) c.loop-at.at c.loop-at.marks c.address-here.result c.shape_at-length.result c.is_forbidden-forbidden.result = record { reached = c.loop-at.invariant; more = c.loop-at-test.true; there = c.address-here.ensures; read = c.shape_at-length.ensures; told = c.is_forbidden-forbidden.ensures } in
    sized c.fill.ensures.len (turn_8 turn (cc) (omega arith) (c.fill-then-too_long.ensures.after (λ y same. same)))

pub loop-at-preserved : goal.loop-at-preserved
loop-at-preserved c =
    let turn : Turn c.args.mem.now c.args.first.0 (length c.fill.new.self) c.loop-at.at c.loop-at.marks c.address-here.result c.shape_at-length.result c.is_forbidden-forbidden.result = record { reached = c.loop-at.invariant; more = c.loop-at-test.true; there = c.address-here.ensures; read = c.shape_at-length.ensures; told = c.is_forbidden-forbidden.ensures } in
    turn_on turn (cc) (omega arith)

pub returns : goal.returns
returns c = sized c.fill.ensures.len (ended c.args.mem.now c.args.first.0 (length c.fill.new.self) c.loop-at.invariant c.loop-at-test.false)
