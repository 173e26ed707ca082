-- What a part of the code does: whatever comes next, the tree leads where the rest leads from what the code answers.
use Rattle.std.specs.Prelude.{◌≡◌, ℕ, List}
use Rattle.sm83.specs.declared.Cpu.{Cpu}
use Rattle.definition.specs.Bus.{Ask}
use Rattle.definition.specs.Step.{Ended}
use Rattle.definition.specs.Execution.{Does, give}
use Rattle.bus.specs.declared.Port.{Port}
use Rattle.bus.specs.World.{world, leads}

abbrev pub Leads : {A : Type 0} → Does Ended A → Cpu → Port → List ℕ → A → Cpu → Port → List ℕ → Type 0
Leads {A} p s port m a s' port' m' = (k : A → Cpu → Ask Ended) → leads (p s k) (world port m) ≡ leads (k a s') (world port' m')

-- Of what p does the code has done a part, and q is left.
abbrev pub LeadsTo : {A : Type 0} → Does Ended A → Cpu → Port → List ℕ → Does Ended A → Cpu → Port → List ℕ → Type 0
LeadsTo {A} p s port m q s' port' m' = (k : A → Cpu → Ask Ended) → leads (p s k) (world port m) ≡ leads (q s' k) (world port' m')

-- What contracts say: this.
pub record Reaches {A : Type 0} (p : Does Ended A) (s : Cpu) (port : Port) (m : List ℕ) (q : Does Ended A) (s' : Cpu) (port' : Port) (m' : List ℕ) : Type 0 where
  pub there : LeadsTo p s port m q s' port' m'

-- all of p is done, and this is its value
abbrev pub Runs : {A : Type 0} → Does Ended A → Cpu → Port → List ℕ → A → Cpu → Port → List ℕ → Type 0
Runs p s port m a = Reaches p s port m (give a)
