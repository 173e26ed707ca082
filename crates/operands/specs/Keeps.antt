-- What is done with no access.
use Rattle.std.specs.Prelude.{List, ℕ}
use Rattle.sm83.specs.declared.Cpu.{Cpu}
use Rattle.definition.specs.Step.{Ended}
use Rattle.definition.specs.Execution.{Does}
use Rattle.bus.specs.declared.Port.{Port}
use Rattle.bus.specs.Leads.{Leads}

-- on any memory, which stays as it is
pub record Keeps {A : Type 0} (p : Does Ended A) (s : Cpu) (port : Port) (a : A) (s' : Cpu) (port' : Port) : Type 0 where
  pub there : (m : List ℕ) → Leads p s port m a s' port' m
