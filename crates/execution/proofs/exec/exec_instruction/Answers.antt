-- Shows one instruction: operand, match and result, one after another.
use Rattle.execution.proofs.exec.Executing.{executed, can_read, can_write, can_compute}
use Rattle.execution.proofs.exec.exec_instruction.Goals as goal

pub read_operand-x-requires : goal.read_operand-x-requires
read_operand-x-requires c = can_read c.args.instruction c.requires

pub compute-w-requires : goal.compute-w-requires
compute-w-requires c =
    can_compute c.args.instruction c.requires

pub write_operand-y-requires : goal.write_operand-y-requires
write_operand-y-requires c =
    can_write c.args.instruction c.requires

pub returns : goal.returns
returns c =
    record {
      there = executed _ _ _ _ _ _ _ _ _ _ _ _ _ _ _ _ c.read_operand-x.ensures.there c.compute-w.ensures.there c.write_operand-y.ensures.there;
    }
