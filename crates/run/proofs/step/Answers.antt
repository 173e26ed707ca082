-- Shows the step: a run with a budget of one.
use mathlib.Core.Path.{ap, ◌∙◌}
use mathlib.Core.List.{List}
use Prim.Native.Nat.{ℕ}
use Rattle.definition.specs.Run.{RunAnswer}
use Rattle.run.specs.Answers.{outcome_of}
use Rattle.bus.specs.World.{behind}
use Rattle.run.proofs.Admitted.{once}
use Rattle.run.proofs.step.Goals as goal

pub returns : goal.returns
returns c =
    let args = c.args in
    let ran = c.run-x.ensures in
    let stepped = once behind args.cpu args.mem.now in
    record {
      outcome = c.outcome_of.ensures ∙ ap (λ (r : RunAnswer (List ℕ)). outcome_of r.last) ran ∙ ap outcome_of stepped.last;
      cpu = ap (λ (r : RunAnswer (List ℕ)). r.cpu) ran ∙ stepped.cpu;
      memory = ap (λ (r : RunAnswer (List ℕ)). r.memory) ran ∙ stepped.memory;
      cycles = ap (λ (r : RunAnswer (List ℕ)). r.cycles) ran ∙ stepped.cycles;
    }
