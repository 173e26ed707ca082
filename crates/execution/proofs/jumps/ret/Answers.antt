-- Shows RET where its condition holds and where not.
use Rattle.execution.proofs.jumps.Jumping.{held, not_held, returned_if}
use Rattle.execution.proofs.jumps.ret.Goals as goal

pub returns-then-go : goal.returns-then-go
returns-then-go c =
    record {
      there = returned_if _ _ _ _ _ _ _ _ _ _ _ c.is_unconditional.ensures c.idle_unless-p.ensures (held _ _ _ _ _ _ _ _ _ _ c.check_cond-go.ensures c.if-go.true c.ret_now.ensures.there);
    }

pub returns-else-go : goal.returns-else-go
returns-else-go c =
    record {
      there = returned_if _ _ _ _ _ _ _ _ _ _ _ c.is_unconditional.ensures c.idle_unless-p.ensures (not_held _ _ _ _ _ _ _ c.check_cond-go.ensures c.if-go.false c.normal.ensures);
    }
