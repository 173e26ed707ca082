-- What the accesses of an instruction come to: each part leads where the definition leads, by what its callees ensure.
use Rattle.std.proofs.Common.{◌≡◌, ℕ, List, sym, ap, ◌∙◌}
use Rattle.sm83.specs.declared.Cpu.{Cpu}
use Rattle.sm83.specs.Basics.{next, back, word, high_byte, low_byte}
use Rattle.definition.specs.Bus.{Kind, Operand, Stack, read, write}
use Rattle.sm83.specs.State.{pc, sp, set_pc, set_sp}
use Rattle.definition.specs.Execution.{◌>>=◌, ◌>>◌, byte_at_pc, imm8, imm16, store, idle, push, pop}
use Rattle.bus.specs.declared.Port.{Port}
use Rattle.bus.specs.World.{world, leads, Reads, Writes, Idles}
use Rattle.bus.specs.Leads.{Leads}
use Rattle.bus.proofs.Leading.{after, stored}

module _ (s : Cpu) (port port' : Port) (m m' : List ℕ) where
  pub byte_at_pc_lem : (c : Kind) (v to : ℕ) → Reads c (pc s) port m v port' m' → to ≡ next (pc s) → Leads (byte_at_pc c) s port m v (set_pc to s) port' m'
  unfolding byte_at_pc
  byte_at_pc_lem c v to h e k = h.there (λ x. k x (set_pc (next (pc s)) s)) ∙ ap (λ (x : ℕ). leads (k v (set_pc x s)) (world port' m')) (sym e)

  pub byte_to : (c : Kind) (a v : ℕ) → Writes c a v port m port' m' → Leads (store c a v) s port m tt s port' m'
  byte_to c a v h k = h.there (k tt s)

  pub idled : Idles port m port' m' → Leads idle s port m tt s port' m'
  idled h k = h.there (k tt s)

  module _ (port'' : Port) (m'' : List ℕ) (first second : ℕ) where
    pub pushed : (w : ℕ) (t : Cpu) → first ≡ back (sp s) → second ≡ back first → Writes Stack first (high_byte w) port m port' m' → Writes Stack second (low_byte w) port' m' port'' m'' → t ≡ set_sp second s → Leads (push w) s port m tt t port'' m''
    unfolding push
    pushed w t e1 e2 h1 h2 e3 k = simp (e3, ← e1, ← e2) (h1.there (write Stack second (low_byte w) (k tt (set_sp second s))) ∙ h2.there (k tt (set_sp second s)))

    pub popped : (low high w : ℕ) (t : Cpu) → Reads Stack (sp s) port m low port' m' → first ≡ next (sp s) → Reads Stack first port' m' high port'' m'' → second ≡ next first → w ≡ word high low → t ≡ set_sp second s → Leads pop s port m w t port'' m''
    unfolding pop
    popped low high w t h1 e1 h2 e2 e3 e4 k = simp (e4, e3, ← e1, ← e2) (h1.there (λ x. read Stack first (λ y. k (word y x) (set_sp second s))) ∙ h2.there (λ y. k (word y low) (set_sp second s)))

pub two_bytes : (s t u : Cpu) (port port' port'' : Port) (m m' m'' : List ℕ) (low high w : ℕ) → Leads imm8 s port m low t port' m' → Leads imm8 t port' m' high u port'' m'' → w ≡ word high low → Leads imm16 s port m w u port'' m''
unfolding imm16
two_bytes s t u port port' port'' m m' m'' low high w first second e k = first (λ x y. imm8 y (λ z v. k (word z x) v)) ∙ second (λ z v. k (word z low) v) ∙ ap (λ (x : ℕ). leads (k x u) (world port'' m'')) (sym e)

-- a word to where the word at PC points
module _ (s t u : Cpu) (port port1 port2 port3 : Port) (m m1 m2 m3 : List ℕ) (v a b : ℕ) where
  pub word_at_pc : Leads imm16 s port m a t port1 m1 → Writes Operand a (low_byte v) port1 m1 port2 m2 → b ≡ next a → Leads (store Operand b (high_byte v)) t port2 m2 tt u port3 m3 → Leads (do x ← imm16; store Operand x (low_byte v); store Operand (next x) (high_byte v)) s port m tt u port3 m3
  word_at_pc first h e last =
      after s t u port port1 port3 m m1 m3 imm16 (λ x. store Operand x (low_byte v) >> store Operand (next x) (high_byte v)) a tt first
      (after t t u port1 port2 port3 m1 m2 m3 (store Operand a (low_byte v)) (λ _. store Operand (next a) (high_byte v)) tt tt (byte_to t port1 port2 m1 m2 Operand a (low_byte v) h) (stored t u port2 port3 m2 m3 (high_byte v) b (next a) e last))
