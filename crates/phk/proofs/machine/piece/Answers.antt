-- Shows what a call of `run` adds to what has been answered so far, whether or not its line could be written.
use Rattle.std.proofs.Common.{◌&&◌}
use Rattle.phk.proofs.Going.{piece_adds}
use Rattle.phk.proofs.machine.piece.Goals as goal

pub returns : goal.returns
returns c = piece_adds (c.show_before-begun.result && c.show_after-ended.result) c.args.far _ _ _ c.args.mem.now _ _ c.run-x.ensures c.farther.ensures c.cut_unless.ensures
