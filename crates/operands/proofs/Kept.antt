-- What is done with no access, on a memory at hand.
use mathlib.Core.Path.{◌≡◌}
use mathlib.Core.List.{List}
use Prim.Native.Nat.{ℕ}
use Rattle.sm83.specs.declared.Cpu.{Cpu}
use Rattle.definition.specs.Step.{Ended}
use Rattle.definition.specs.Execution.{Does, give}
use Rattle.bus.specs.declared.Port.{Port}
use Rattle.bus.specs.Leads.{Reaches}
use Rattle.operands.specs.Keeps.{Keeps}

pub here : {A : Type 0} {p : Does Ended A} {s t : Cpu} {port port' : Port} {a : A} {m : List ℕ} → Keeps p s port a t port' → Reaches p s port m (give a) t port' m
here {m = m} h = record { there = h.there m }
