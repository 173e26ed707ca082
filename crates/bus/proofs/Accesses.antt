-- One access: what the code leaves is what its memory leaves. The one place where the operations are opened for the code.
use Rattle.std.specs.Prelude.{Option}
use Rattle.std.proofs.Common.{◌≡◌, ℕ, false, List, set, ap, ◌∙◌}
use Rattle.sm83.specs.PowerOn.{cpu_zero}
use Rattle.outcome.specs.declared.Outcome.TheVariants.{Normal}
use Rattle.definition.specs.Bus.{Kind, Stack, Ask, leaf, byte_at, pending, taken}
use Rattle.definition.specs.Step.{Ended}
use Rattle.bus.specs.declared.Port.{Port}
use Rattle.bus.specs.World.{World, Led, world, counted, leads, peeked, after_write, after_take, accessing, Reads, Writes, Idles, Peeks, Takes}
use Rattle.outcome.specs.declared.interrupt.InterruptType.{InterruptType}

module _ (port port' : Port) (m m' : List ℕ) (e : port' ≡ counted port) where
  pub has_read : (k : Kind) (a v : ℕ) → v ≡ byte_at m a → m' ≡ m → Reads k a port m v port' m'
  unfolding leads accessing
  has_read k a v e1 e2 = record { there = λ rest. simp (e, e1, e2) }

  pub has_written : (k : Kind) (a v : ℕ) → m' ≡ set m a v → Writes k a v port m port' m'
  unfolding leads accessing
  has_written k a v e1 = record { there = λ rest. simp (e, e1) }

  pub has_idled : m' ≡ m → Idles port m port' m'
  unfolding leads accessing
  has_idled e1 = record { there = λ rest. simp (e, e1) }

pub has_peeked : (m m' : List ℕ) (i : Option InterruptType) → i ≡ pending m → m' ≡ m → Peeks m i m'
unfolding leads accessing
has_peeked m m' i e1 e2 = record { there = λ port rest. simp (e1, e2) }

-- what a write leaves, for the take that follows it in the same access
left_by : (k : Kind) (a v : ℕ) (port port' : Port) (m m' : List ℕ) → Writes k a v port m port' m' → after_write k (world port m) a v ≡ world port' m'
unfolding leads
left_by k a v port port' m m' h = ap (λ (l : Led Ended). l.left) (h.there (leaf (record { outcome = Normal; cpu = cpu_zero false })))

takes : (port : Port) (m m' : List ℕ) (i : Option InterruptType) (rest : Option InterruptType → Ask Ended) → i ≡ pending m → m' ≡ taken m → leads (rest (peeked (world port m))) (after_take (world port m)) ≡ leads (rest i) (world port m')
unfolding accessing
takes port m m' i rest e1 e2 = simp (e1, e2)

pub has_taken : (a v : ℕ) (i : Option InterruptType) (port port' : Port) (m m1 m2 : List ℕ) → Writes Stack a v port m port' m1 → i ≡ pending m1 → m2 ≡ taken m1 → Takes a v port m i port' m2
unfolding leads
has_taken a v i port port' m m1 m2 w e1 e2 = record {
  there = λ rest. ap (λ (x : World). leads (rest (peeked x)) (after_take x)) (left_by Stack a v port port' m m1 w) ∙ takes port' m1 m2 i rest e1 e2;
}
