-- A kind of memory that the code's memory follows, access by access, is followed by every tree: the same answer, memories that belong together, and as many M-cycles as accesses. One induction on the tree.
use Rattle.std.specs.Prelude.{Option}
use Rattle.std.proofs.Common.{◌≡◌, ℕ, suc, ◌+◌, ◌%◌, ◌<◌, List, set, refl, ap, ◌∙◌, subst, arith}
use Rattle.definition.specs.Bus.{Kind, Stack, Ask, leaf, read, write, idle, peek, write_and_take, Bus, Performed, run_on, mcycles, byte_at, pending, taken}
use Rattle.bus.specs.World.{World, Led, shown, after_read, after_write, after_idle, peeked, after_take, accessing, leads, behind}
use Rattle.outcome.specs.declared.interrupt.InterruptType.{InterruptType}

-- R says which memories belong together
pub record Follows {U : Type 0} (b : Bus U) (R : World → U → Type 0) : Type 0 where
  pub shows : (w : World) (v : U) (a : ℕ) → R w v → shown w a ≡ b.sees v a
  pub asks : (w : World) (v : U) → R w v → peeked w ≡ b.peeks v
  pub by_read : (k : Kind) (w : World) (v : U) (a : ℕ) → R w v → R (after_read k w a) (b.after_read k v a)
  pub by_write : (k : Kind) (w : World) (v : U) (a x : ℕ) → R w v → R (after_write k w a x) (b.after_write k v a x)
  pub by_idle : (w : World) (v : U) → R w v → R (after_idle w) (b.after_idle v)
  pub by_peek : (w : World) (v : U) → R w v → R w (b.after_peek v)
  pub by_take : (w : World) (v : U) → R w v → R (after_take w) (b.after_take v)

-- "A read, a write or an idle access costs one M-cycle": each is counted once, and a take is part of its write.

abbrev cycles : World → ℕ
cycles w = w.port.cycles.0

abbrev OneMore : World → World → Type 0
OneMore w w' = cycles w' ≡ (cycles w + 1) % 4294967296

one_read : (k : Kind) (w : World) (a : ℕ) → OneMore w (after_read k w a)
unfolding accessing
one_read k w a = refl

one_write : (k : Kind) (w : World) (a v : ℕ) → OneMore w (after_write k w a v)
unfolding accessing
one_write k w a v = refl

one_idle : (w : World) → OneMore w (after_idle w)
unfolding accessing
one_idle w = refl

no_take : (w : World) → cycles (after_take w) ≡ cycles w
unfolding accessing
no_take w = refl

-- an access more: counted first, or last
one_more : (c d n m : ℕ) → d ≡ (c + 1) % 4294967296 → m ≡ (d + n) % 4294967296 → m ≡ (c + suc n) % 4294967296
one_more c d n m e f = omega arith

module _ {U : Type 0} (b : Bus U) (R : World → U → Type 0) where
  pub record Followed {A : Type 0} (l : Led A) (w : World) (q : Performed U A) : Type 0 where
    pub value : l.value ≡ q.value
    pub memory : R l.left q.memory
    pub counts : cycles l.left ≡ (cycles w + mcycles q.accesses) % 4294967296

  module _ (f : Follows b R) where
    small : (c d : ℕ) → d ≡ (c + 1) % 4294967296 → d < 4294967296
    small c d e = omega arith

    pub follow : {A : Type 0} (p : Ask A) (w : World) (v : U) → cycles w < 4294967296 → R w v → Followed (leads p w) w (run_on b p v)
    unfolding leads run_on
    follow (leaf a) w v s r = record { value = refl; memory = r; counts = omega arith }
    follow (read k a g) w v s r =
        let q = follow (g (shown w a)) (after_read k w a) (b.after_read k v a) (small (cycles w) _ (one_read k w a)) (f.by_read k w v a r) in
        subst (λ (x : ℕ). Followed (leads (g (shown w a)) (after_read k w a)) w (run_on b (read k a (λ _. g x)) v)) (f.shows w v a r)
        (record { value = q.value; memory = q.memory; counts = one_more (cycles w) _ _ _ (one_read k w a) q.counts })
    follow (write k a x p) w v s r =
        let q = follow p (after_write k w a x) (b.after_write k v a x) (small (cycles w) _ (one_write k w a x)) (f.by_write k w v a x r) in
        record { value = q.value; memory = q.memory; counts = one_more (cycles w) _ _ _ (one_write k w a x) q.counts }
    follow (idle p) w v s r =
        let q = follow p (after_idle w) (b.after_idle v) (small (cycles w) _ (one_idle w)) (f.by_idle w v r) in
        record { value = q.value; memory = q.memory; counts = one_more (cycles w) _ _ _ (one_idle w) q.counts }
    follow (peek g) w v s r =
        subst (λ (x : Option InterruptType). Followed (leads (g (peeked w)) w) w (run_on b (g x) (b.after_peek v))) (f.asks w v r) (follow (g (peeked w)) w (b.after_peek v) s (f.by_peek w v r))
    follow (write_and_take a x g) w v s r =
        let w1 : World = after_write Stack w a x in
        let v1 : U = b.after_write Stack v a x in
        let r1 : R w1 v1 = f.by_write Stack w v a x r in
        let once : cycles (after_take w1) ≡ (cycles w + 1) % 4294967296 = no_take w1 ∙ one_write Stack w a x in
        let q = follow (g (peeked w1)) (after_take w1) (b.after_take v1) (small (cycles w) _ once) (f.by_take w1 v1 r1) in
        subst (λ (y : Option InterruptType). Followed (leads (g (peeked w1)) (after_take w1)) w (run_on b (write_and_take a x (λ _. g y)) v)) (f.asks w1 v1 r1)
        (record { value = q.value; memory = q.memory; counts = one_more (cycles w) _ _ _ once q.counts })

    -- where a tree is known to lead
    pub arrive : {A : Type 0} (p : Ask A) (w w' : World) (v : U) (a : A) → cycles w < 4294967296 → R w v → leads p w ≡ leads (leaf a) w' → Followed (record { value = a; left = w' }) w (run_on b p v)
    unfolding leads
    arrive p w w' v a s r e = subst (λ (l : Led _). Followed l w (run_on b p v)) e (follow p w v s r)

-- The code's memory follows plain memory: the same bytes.

abbrev pub SameBytes : World → List ℕ → Type 0
SameBytes w m = w.bytes ≡ m

pub follows_behind : Follows behind SameBytes
unfolding accessing
follows_behind = record {
  shows = λ w v a r. ap (λ (m : List ℕ). byte_at m a) r;
  asks = λ w v r. ap pending r;
  by_read = λ k w v a r. r;
  by_write = λ k w v a x r. ap (λ (m : List ℕ). set m a x) r;
  by_idle = λ w v r. r;
  by_peek = λ w v r. r;
  by_take = λ w v r. ap taken r;
}
