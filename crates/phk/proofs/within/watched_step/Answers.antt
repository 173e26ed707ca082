-- Shows what a watched step adds to what has been answered so far.
use Rattle.phk.proofs.Going.{watched_adds}
use Rattle.phk.proofs.within.watched_step.Goals as goal

pub returns-clause-mem_after : goal.returns-clause-mem_after
returns-clause-mem_after c = watched_adds c.args.far _ _ c.args.mem.now _ _ _ c.watch-w.ensures c.requires c.farther.ensures
