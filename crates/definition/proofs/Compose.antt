-- One part of a step, then the next: the second starts from the first's answer and memory, and the accesses follow on.
use mathlib.Core.Path.{◌≡◌, refl, ap}
use mathlib.Core.List.{List, ◌++◌}
use Prim.Native.Nat.{◌+◌}
use lib.ListN.{length-append}
use Rattle.definition.specs.Bus.{Ask, leaf, read, write, idle, peek, write_and_take, Access, Read, Write, Idle, WriteAndTake, Stack, Bus, Performed, logged, run_on, mcycles}

-- a tree, then the tree that its answer chooses
unfoldable pub bind : {A B : Type 0} → Ask A → (A → Ask B) → Ask B
bind (leaf a) f = f a
bind (read k a g) f = read k a (λ v. bind (g v) f)
bind (write k a v p) f = write k a v (bind p f)
bind (idle p) f = idle (bind p f)
bind (peek g) f = peek (λ i. bind (g i) f)
bind (write_and_take a v g) f = write_and_take a v (λ i. bind (g i) f)

-- what came of it, after these accesses
abbrev pub after : {W A : Type 0} → List Access → Performed W A → Performed W A
after l r = record { value = r.value; memory = r.memory; accesses = l ++ r.accesses }

pub run_bind : {W A B : Type 0} (b : Bus W) (p : Ask A) (f : A → Ask B) (m : W) → run_on b (bind p f) m ≡ after (run_on b p m).accesses (run_on b (f (run_on b p m).value) (run_on b p m).memory)
unfolding run_on bind
run_bind b (leaf a) f m = refl
run_bind b (read k a g) f m = ap (logged (Read k a)) (run_bind b (g (b.sees m a)) f (b.after_read k m a))
run_bind b (write k a v p) f m = ap (logged (Write k a v)) (run_bind b p f (b.after_write k m a v))
run_bind b (idle p) f m = ap (logged Idle) (run_bind b p f (b.after_idle m))
run_bind b (peek g) f m = run_bind b (g (b.peeks m)) f (b.after_peek m)
run_bind b (write_and_take a v g) f m =
    ap (logged (WriteAndTake a v)) (run_bind b (g (b.peeks (b.after_write Stack m a v))) f (b.after_take (b.after_write Stack m a v)))

-- "M-cycles equal to its length": those of two lists add
pub mcycles_append : (l k : List Access) → mcycles (l ++ k) ≡ mcycles l + mcycles k
mcycles_append l k = length-append l k
