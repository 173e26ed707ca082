-- HALT: what the callees answer comes to what 000 does.
use Rattle.std.specs.Prelude.{Option}
use Rattle.std.proofs.Common.{if◌then◌else◌}
use mathlib.Core.Bool.{Bool, true, false}
use mathlib.Core.Path.{◌≡◌}
use mathlib.Core.List.{List}
use Prim.Native.Nat.{ℕ}
use Rattle.sm83.specs.declared.Cpu.{Cpu}
use Rattle.sm83.specs.declared.HaltMode.TheVariants.{HaltRunInterrupt, HaltNoRunInterrupt, HaltBug}
use Rattle.outcome.specs.declared.Outcome.TheVariants.{Normal}
use Rattle.outcome.specs.Interrupts.{is_pending}
use Rattle.sm83.specs.State.{set_halt}
use Rattle.bus.specs.declared.Port.{Port}
use Rattle.bus.specs.World.{Peeks}
use Rattle.bus.specs.declared.Left.{Left}
use Rattle.bus.specs.Leads.{Leads}
use Rattle.execution.specs.Mirror.{halt_made}
use Rattle.execution.specs.Worked.{worked}
use Rattle.outcome.specs.declared.interrupt.InterruptType.{InterruptType}
use Rattle.execution.specs.declared.Made.{Made}

module _ (s t : Cpu) (port : Port) (m : List ℕ) (r : Left Made) where
  pub halted : s.ime ≡ true → t ≡ set_halt HaltRunInterrupt s → r ≡ worked t port 0 Normal → Leads halt_made s port m r.value r.cpu r.port m
  halted e1 e2 e3 k = simp (e3, e2, e1)

  pub halted_off : (m' : List ℕ) (i : Option InterruptType) (some : Bool) → s.ime ≡ false → Peeks m i m' → is_pending i ≡ some → t ≡ set_halt (if some then HaltBug else HaltNoRunInterrupt) s → r ≡ worked t port 0 Normal → Leads halt_made s port m r.value r.cpu r.port m'
  halted_off m' i some e1 h e4 e5 e6 k = simp (e6, e5, ← e4, e1) (h.there port _)
