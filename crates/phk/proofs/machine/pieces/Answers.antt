-- Shows the run by what is kept on the way: where it is over, and after a piece more.
use Rattle.std.proofs.Common.{sym, ◌∙◌, arith}
use Rattle.phk.proofs.Going.{from_nothing, is_looked_at, stops_not, goes_on, is_over_lem}
use Rattle.phk.proofs.machine.pieces.Goals as goal

pub returns-then-over : goal.returns-then-over
returns-then-over c =
    is_over_lem _ _ _ _ _ _ (is_looked_at _ _ _ _ _ _ c.loop-left.invariant.0 _ c.looked-f.ensures) c.args.cpu c.args.mem.now
    (from_nothing _ _ _ c.piece-f.result _ c.begun.ensures c.piece-f.ensures)
    (sym c.over.ensures ∙ c.if-over.true)

pub loop-left-preserved : goal.loop-left-preserved
loop-left-preserved c = (
  goes_on _ _ _ _ _ _ (is_looked_at _ _ _ _ _ _ c.loop-left.invariant.0 _ c.looked-f.ensures) _ _ _
      c.piece_size-size.ensures.fits (stops_not c.looked-f.result (sym c.over.ensures ∙ c.if-over.false)) c.piece-f-in-loop-left.ensures c.piece-f-in-loop-left.auto.mem,
  omega (arith, c.loop-left.invariant.1, c.note.auto.pcs),
)
