-- The arms of the match of `exec_instruction` that only compute, whatever the opcode; those that use the bus go by `arm` of bus/proofs/Leading.
use mathlib.Core.Path.{◌≡◌, subst⁻¹}
use mathlib.Core.List.{List}
use Prim.Native.Nat.{ℕ, ◌%◌, ◌<◌}
use native.Mathlib.Omega.{arith}
use lib.Dec.{T, ltb, ltb→lt}
use Rattle.sm83.specs.declared.Cpu.{Cpu}
use Rattle.instruction.specs.declared.Opcode.{Opcode}
use Rattle.definition.specs.Bus.{Ask}
use Rattle.definition.specs.Step.{Ended}
use Rattle.definition.specs.Execution.{Does, give}
use Rattle.bus.specs.declared.Port.{Port}
use Rattle.bus.specs.World.{world, leads}
use Rattle.bus.specs.Leads.{Reaches}
use Rattle.bus.specs.declared.Left.{Left}
use Rattle.execution.specs.declared.Made.{Made}

-- What is matched is o, the arm answers w, and for o that is what P says.
pub computes : (P : Opcode → Does Ended Made) (o : Opcode) {s : Cpu} {port : Port} {m : List ℕ} {code : Opcode} {r w : Left Made} → code ≡ o → r ≡ w → ((k : Made → Cpu → Ask Ended) → leads (P o s k) (world port m) ≡ leads (k w.value w.cpu) (world w.port m)) → Reaches (P code) s port m (give r.value) r.cpu r.port m
computes P o {s = s} {port = port} {m = m} {code = code} {w = w} e e' same =
    subst⁻¹ (λ (z : Left Made). Reaches (P code) s port m (give z.value) z.cpu z.port m) e'
    (subst⁻¹ (λ (x : Opcode). Reaches (P x) s port m (give w.value) w.cpu w.port m) e (record { there = same }))

-- the bit that an opcode names is one of eight
pub below_eight : (n : ℕ) → T (ltb n 8) → n % 8 ≡ n
below_eight n h = let l : n < 8 = ltb→lt n 8 h in omega arith
