-- A kind of memory that keeps a window, its bytes changing by writes into it only, and what it makes of a tree that takes no interrupt.
use mathlib.Core.Path.{◌≡◌, refl, ◌∙◌}
use mathlib.Core.Bool.{Bool, true, false, not, ◌&&◌}
use mathlib.Core.Logic.{◌≢◌}
use Prim.Native.Nat.{ℕ, ◌+◌, ◌≤◌, ◌<◌}
use native.Mathlib.Omega.{arith}
use lib.Dec.{leb, ltb, T, T_not, le→leb, lt→ltb}
use lib.ListN.{length-set}
use lib.Seq.{get_or-set_other}
use Rattle.definition.specs.Bus.{Kind, Ask, leaf, read, write, idle, peek, write_and_take, Bus, Performed, run_on, plain}
use Rattle.definition.specs.Step.{Ended}
use Rattle.routine.specs.Trace.{takes_none, in_window, spares, SameWindow}
use Rattle.routine.proofs.Onward.{anything, Ends}

both_left : (p q : Bool) → T (p && q) → T p
both_left true q t = tt
both_left false q t = t

both_right : (p q : Bool) → T (p && q) → T q
both_right true q t = t
both_right false q t = absurd t

both : (p q : Bool) → T p → T q → T (p && q)
both true q s t = t
both false q s t = s

-- the same bytes in the window, and the same size
abbrev pub Keeps : {W : Type 0} → Bus W → ℕ → ℕ → W → W → Type 0
Keeps b first n m m' = SameWindow b first n m m' × (b.size m' ≡ b.size m)

-- What demand 3 asks of a kind of memory.
pub record Keeper {W : Type 0} (b : Bus W) (first n : ℕ) : Type 0 where
  pub by_read : (k : Kind) (m : W) (a : ℕ) → Keeps b first n m (b.after_read k m a)
  pub by_write : (k : Kind) (m : W) (a v : ℕ) → T (not (in_window first n a)) → Keeps b first n m (b.after_write k m a v)
  pub by_idle : (m : W) → Keeps b first n m (b.after_idle m)
  pub by_peek : (m : W) → Keeps b first n m (b.after_peek m)

pub plain_keeps : (first n : ℕ) → Keeper plain first n
plain_keeps first n = record {
  by_read = λ k m a. ((λ x from to. refl), refl);
  by_write = λ k m a v spared. ((λ x from to. get_or-set_other m a x v 0 (apart a x spared from to)), length-set m a v);
  by_idle = λ m. ((λ x from to. refl), refl);
  by_peek = λ m. ((λ x from to. refl), refl);
}
  where
    apart : (a x : ℕ) → T (not (in_window first n a)) → first ≤ x → x < first + n → x ≢ a
    apart a x spared from to e = T_not (in_window first n a) spared (both (leb first a) (ltb a (first + n)) (le→leb first a (omega arith)) (lt→ltb a (first + n) (omega arith)))

module _ {W : Type 0} (b : Bus W) where
  -- a memory whose bytes are as K says
  abbrev pub Tells : (ℕ → ℕ → Type 0) → W → Type 0
  Tells K m = (a : ℕ) → K a (b.sees m a)

  -- what comes of a tree that ends as Q says: it takes no interrupt, and if it writes nothing into the window, then it keeps the window
  abbrev pub Came : ℕ → ℕ → (Ended → Type 0) → W → Performed W Ended → Type 0
  Came first n Q m r = Q r.value × T (takes_none r.accesses) × (T (spares first n r.accesses) → Keeps b first n m r.memory)

module _ {W : Type 0} (b : Bus W) (first n : ℕ) (keep : Keeper b first n) (Q : Ended → Type 0) where
  keeps_on : (l m r : W) → Keeps b first n l m → Keeps b first n m r → Keeps b first n l r
  keeps_on l m r one two = ((λ a from to. two.0 a from to ∙ one.0 a from to), two.1 ∙ one.1)

  along : (l m : W) (p : Ask Ended) → Keeps b first n l m → Came b first n Q m (run_on b p m) → Came b first n Q l (run_on b p m)
  along l m p one c = (c.0, c.1, λ spared. keeps_on l m (run_on b p m).memory one (c.2 spared))

  -- K is about the window alone
  abbrev Lasts : (ℕ → ℕ → Type 0) → Type 0
  Lasts K = (l m : W) → Keeps b first n l m → Tells b K l → Tells b K m

  comes : (K : ℕ → ℕ → Type 0) → Lasts K → (p : Ask Ended) → Ends K Q p → (m : W) → Tells b K m → Came b first n Q m (run_on b p m)
  unfolding run_on
  comes K lasts (leaf e) h m tells = (h, tt, λ spared. ((λ a from to. refl), refl))
  comes K lasts (read k a f) h m tells =
      along m (b.after_read k m a) (f (b.sees m a)) (keep.by_read k m a)
      (comes K lasts (f (b.sees m a)) (h (b.sees m a) (tells a)) (b.after_read k m a) (lasts m _ (keep.by_read k m a) tells))
  comes K lasts (write k a v p) h m tells =
      let c : Came b first n Q (b.after_write k m a v) (run_on b p (b.after_write k m a v)) = comes anything (λ l m keeps t x. tt) p h (b.after_write k m a v) (λ x. tt) in
      (c.0, c.1, λ spared. keeps_on m _ _ (keep.by_write k m a v (both_left (not (in_window first n a)) _ spared)) (c.2 (both_right (not (in_window first n a)) _ spared)))
  comes K lasts (idle p) h m tells = along m (b.after_idle m) p (keep.by_idle m) (comes K lasts p h (b.after_idle m) (lasts m _ (keep.by_idle m) tells))
  comes K lasts (peek f) h m tells = along m (b.after_peek m) (f (b.peeks m)) (keep.by_peek m) (comes K lasts (f (b.peeks m)) (h (b.peeks m)) (b.after_peek m) (lasts m _ (keep.by_peek m) tells))
  comes K lasts (write_and_take a v f) h m tells = absurd h

-- the window's bytes are these
abbrev pub WindowSays : ℕ → ℕ → (ℕ → ℕ) → ℕ → ℕ → Type 0
WindowSays first n byte a v = first ≤ a → a < first + n → v ≡ byte a

pub shown : {W : Type 0} (b : Bus W) (first n : ℕ) → Keeper b first n → (Q : Ended → Type 0) (byte : ℕ → ℕ) (p : Ask Ended) → Ends (WindowSays first n byte) Q p → (m : W) → Tells b (WindowSays first n byte) m → Came b first n Q m (run_on b p m)
shown b first n keep Q byte p = comes b first n keep Q (WindowSays first n byte) (λ l m keeps tells a from to. keeps.0 a from to ∙ tells a from to) p
