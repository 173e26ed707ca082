-- The struct that a function answers may be named by what it equals.
use mathlib.Core.Path.{◌≡◌, sym, subst}
use mathlib.Core.List.{List}
use Prim.Native.Nat.{ℕ}
use Rattle.sm83.specs.declared.Cpu.{Cpu}
use Rattle.definition.specs.Step.{Ended}
use Rattle.definition.specs.Execution.{Does}
use Rattle.bus.specs.declared.Port.{Port}
use Rattle.bus.specs.Leads.{Leads}
use Rattle.execution.specs.declared.Made.{Made}
use Rattle.bus.specs.declared.Left.{Left}

pub ending : (s : Cpu) (port : Port) (m m' : List ℕ) (r w : Left Made) (P : Does Ended Made) → r ≡ w → Leads P s port m w.value w.cpu w.port m' → Leads P s port m r.value r.cpu r.port m'
ending s port m m' r w P e l = subst (λ z. Leads P s port m z.value z.cpu z.port m') (sym e) l
