-- Shows JP where its condition holds and where not.
use Rattle.execution.proofs.jumps.Jumping.{held, not_held, jumped}
use Rattle.execution.proofs.jumps.jp.Goals as goal

pub returns-then-go : goal.returns-then-go
returns-then-go c =
    record {
      there = held _ _ _ _ _ _ _ _ _ _ c.check_cond-go.ensures c.if-go.true (jumped _ _ _ _ _ _ _ _ _ _ c.idle-p.ensures c.is_unconditional.ensures c.jump.ensures);
    }

pub returns-else-go : goal.returns-else-go
returns-else-go c =
    record {
      there = not_held _ _ _ _ _ _ _ c.check_cond-go.ensures c.if-go.false c.normal.ensures;
    }
