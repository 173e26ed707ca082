-- What is done at HL, which then is moved on or back: by the address that the code has read, and the one that it comes to.
use mathlib.Core.Path.{◌≡◌}
use mathlib.Core.List.{List}
use Prim.Native.Nat.{ℕ}
use Rattle.sm83.specs.declared.Cpu.{Cpu}
use Rattle.definition.specs.Step.{Ended}
use Rattle.definition.specs.Execution.{Does}
use Rattle.bus.specs.declared.Port.{Port}
use Rattle.bus.specs.Leads.{Reaches}
use Rattle.bus.proofs.Leading.{renamed}

pub moved : {A : Type 0} (P : ℕ → ℕ → Does Ended A) (f : ℕ → ℕ) {q : Does Ended A} {s t : Cpu} {port port' : Port} {m m' : List ℕ} {read hl after : ℕ} → read ≡ hl → after ≡ f read → Reaches (P read after) s port m q t port' m' → Reaches (P hl (f hl)) s port m q t port' m'
moved P f {read = read} e moves l = renamed (λ (x : ℕ). P x (f x)) e (renamed (P read) moves l)
