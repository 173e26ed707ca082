-- A memory of bytes shows bytes, and a read and a fetch at PC leave one.
use Rattle.std.proofs.Common.{ℕ, ◌<◌, List, ap, sym}
use mathlib.Core.Path.{subst⁻¹}
use Rattle.sm83.specs.declared.Cpu.{Cpu}
use Rattle.outcome.specs.declared.Outcome.TheVariants.{Normal}
use Rattle.definition.specs.Bus.{Kind, leaf, byte_at}
use Rattle.definition.specs.Step.{Ended}
use Rattle.definition.specs.Execution.{byte_at_pc}
use Rattle.bus.specs.declared.Port.{Port}
use Rattle.bus.specs.World.{World, Led, world, leads, shown, after_read, accessing}
use Rattle.bus.specs.Leads.{Leads}

abbrev OfBytes : World → Type 0
OfBytes w = (a : ℕ) → byte_at w.bytes a < 256

pub shows_byte : (w : World) (a : ℕ) → OfBytes w → shown w a < 256
unfolding accessing
shows_byte w a h = h a

pub read_keeps : (k : Kind) (w : World) (a : ℕ) → OfBytes w → OfBytes (after_read k w a)
unfolding accessing
read_keeps k w a h = h

-- what the code leaves of a fetch; which bytes these are stays shut
pub fetch_keeps : (k : Kind) (s t : Cpu) (port port' : Port) (m m' : List ℕ) (v : ℕ) → Leads (byte_at_pc k) s port m v t port' m' → OfBytes (world port m) → OfBytes (world port' m')
unfolding leads accessing byte_at_pc
fetch_keeps k s t port port' m m' v l = subst⁻¹ (λ (x : List ℕ). (a : ℕ) → byte_at x a < 256) (ap (λ (x : Led Ended). x.left.bytes) (sym (l (λ _ _. leaf (record { outcome = Normal; cpu = s })))))
