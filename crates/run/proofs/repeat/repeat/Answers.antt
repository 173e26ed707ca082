-- Shows the loop: its invariant is that what is done so far and what is left make the run.
use mathlib.Core.Path.{◌≡◌, refl, sym, subst⁻¹, ◌∙◌}
use mathlib.Core.List.{List}
use Prim.Native.Nat.{ℕ}
use Rattle.std.proofs.Common.{rules}
use native.Mathlib.Omega.{arith}
use Rattle.sm83.specs.declared.Cpu.{Cpu}
use Rattle.outcome.specs.declared.Outcome.{Outcome}
use Rattle.definition.specs.Step.{step}
use Rattle.bus.specs.declared.Port.{Port}
use Rattle.bus.specs.World.{behind}
use Rattle.bus.specs.Leads.{Leads}
use Rattle.run.proofs.Behind.{stands_behind}
use Rattle.run.proofs.Repeating.{starts, ends, stops_early, goes_on}
use Rattle.run.proofs.repeat.repeat.Goals as goal

-- the step, with its state taken apart

moved : (s t s' : Cpu) (p p' : Port) (m m' : List ℕ) (o : Outcome) → t ≡ s' → Leads step s p m o s' p' m' → Leads step s p m o t p' m'
moved s t s' p p' m m' o e l = subst⁻¹ (λ (z : Cpu). Leads step s p m o z p' m') e l

pub loop-n-init : goal.loop-n-init
loop-n-init c =
    starts behind stands_behind _ _ _ _ refl (search rules) (omega (arith, c.well_formed, c.requires), c.fits-mem)

pub returns-then-stop : goal.returns-then-stop
returns-then-stop c =
    stops_early behind stands_behind _ _ _ _ _ _ _ _ c.loop-n.invariant _ _ _ _ (omega (arith, c.ranges.budget)) c.loop-n-test.true (moved _ _ _ _ _ _ _ _ c.fresh-s.ensures c.next_instruction-x.ensures.there)
    (sym c.stops_run-stop.ensures ∙ c.if-stop.true)

pub loop-n-preserved : goal.loop-n-preserved
loop-n-preserved c =
    goes_on behind stands_behind _ _ _ _ _ _ _ _ c.loop-n.invariant _ _ _ _ (omega (arith, c.ranges.budget)) c.loop-n-test.true (moved _ _ _ _ _ _ _ _ c.fresh-s.ensures c.next_instruction-x.ensures.there)
    (sym c.stops_run-stop.ensures ∙ c.if-stop.false)

pub returns : goal.returns
returns c = ends behind stands_behind _ _ _ _ _ _ _ _ c.loop-n.invariant c.loop-n-test.false
