-- Shows the loop: its invariant is that what is done so far and what is left make the run.
use Rattle.bus.specs.World.{behind}
use Rattle.run.proofs.Repeating.{Going}
use Rattle.run.proofs.repeat.repeat.Given as goal

abbrev pub invariant-loop-n : goal.invariant-loop-n
invariant-loop-n l = Going behind l.budget l.initial.s l.initial.mem l.s l.mem l.p l.last l.n
