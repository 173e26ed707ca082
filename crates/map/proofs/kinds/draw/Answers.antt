-- Shows that each turn draws one byte more.
use mathlib.Core.Path.{ap, ◌∙◌}
use Rattle.map.specs.Kinds.{cell_at}
use Rattle.map.proofs.kinds.Drawing.{onward}
use Rattle.map.proofs.kinds.draw.Goals as goal

pub loop-kind-preserved : goal.loop-kind-preserved
loop-kind-preserved c = onward _ _ _ _ c.loop-kind.invariant c.loop-kind-test.true _ (c.cell_at-cell.ensures ∙ ap (cell_at c.stop_of-stop.result c.loop-kind.cell c.loop-kind.at.0) c.byte.ensures) _ c.wrapping_add-at.ensures
