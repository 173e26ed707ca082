-- Shows what the loop keeps: how much is drawn.
use Rattle.std.proofs.Common.{length}
use Rattle.map.proofs.kinds.Drawing.{Drawn}
use Rattle.map.proofs.kinds.draw.Given as goal

abbrev pub invariant-loop-kind : goal.invariant-loop-kind
invariant-loop-kind l = Drawn l.mem l.stop l.fn.first.0 (length l.initial.kinds) l.kind-index l.cell l.at.0 l.kinds
