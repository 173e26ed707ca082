-- The step never changes the length of memory, and keeps every register in its range and F's low bits 0; and so does the run.
-- The step's tree does so where memory answers bytes; one induction over the tree runs it on any memory that does.
use Rattle.std.specs.Prelude.{None, Option, Some}
use mathlib.Core.Path.{◌≡◌, refl, sym, subst, ◌∙◌}
use mathlib.Core.Bool.{Bool, true, false}
use mathlib.Core.List.{List}
use Prim.Native.Nat.{ℕ, ◌<◌}
use lib.Dec.{eqb, ltb}
use lib.ListN.{set, length, length-set}
use lib.Seq.{get_or-set_same, get_or-set_other, set_out}
use borrow.Author.Tests.{ltb-true, ltb-false, eqb-true, eqb-false}
use Rattle.sm83.specs.declared.Cpu.{Cpu}
use Rattle.definition.specs.Bus.{Kind, Stack, Ask, leaf, read, write, idle, peek, write_and_take, Bus, run_on, byte_at, pending, without, taken, plain}
use Rattle.outcome.specs.Interrupts.{interrupt_number}
use Rattle.definition.specs.Step.{Ended, ended, step_tree, Admission, accepted, refused_as, admission, admitted, step_on}
use Rattle.definition.specs.Run.{run_for}
use Rattle.ranges.proofs.Ranged.{Ranged, cleared_byte}
use Rattle.ranges.proofs.Keeping.{Safe}
use Rattle.ranges.proofs.KeepingExecution.{OutcomeRanged}
use Rattle.ranges.proofs.KeepingStep.{step_keeps}
use Rattle.definition.proofs.Runs.{LastSays, run_keeps}
use Rattle.outcome.specs.declared.interrupt.InterruptType.{InterruptType}

-- A memory whose length no access changes.
pub record Sized {W : Type 0} (b : Bus W) : Type 0 where
  pub by_read : (k : Kind) (m : W) (a : ℕ) → b.size (b.after_read k m a) ≡ b.size m
  pub by_write : (k : Kind) (m : W) (a v : ℕ) → b.size (b.after_write k m a v) ≡ b.size m
  pub by_idle : (m : W) → b.size (b.after_idle m) ≡ b.size m
  pub by_peek : (m : W) → b.size (b.after_peek m) ≡ b.size m
  pub by_take : (m : W) → b.size (b.after_take m) ≡ b.size m

-- A memory that shows bytes while it is good, and stays good when bytes are written at its addresses.
pub record Lawful {W : Type 0} (b : Bus W) (Good : W → Type 0) : Type 0 where
  pub shows : (m : W) (a : ℕ) → Good m → a < 65536 → b.sees m a < 256
  pub read_good : (k : Kind) (m : W) (a : ℕ) → Good m → a < 65536 → Good (b.after_read k m a)
  pub write_good : (k : Kind) (m : W) (a v : ℕ) → Good m → a < 65536 → v < 256 → Good (b.after_write k m a v)
  pub idle_good : (m : W) → Good m → Good (b.after_idle m)
  pub peek_good : (m : W) → Good m → Good (b.after_peek m)
  pub take_good : (m : W) → Good m → Good (b.after_take m)

-- The length of memory, for every state.

module _ {W : Type 0} (b : Bus W) (sized : Sized b) where
  tree_size : {A : Type 0} (p : Ask A) (m : W) → b.size (run_on b p m).memory ≡ b.size m
  unfolding run_on
  tree_size (leaf a) m = refl
  tree_size (read k a f) m = tree_size (f (b.sees m a)) (b.after_read k m a) ∙ sized.by_read k m a
  tree_size (write k a v p) m = tree_size p (b.after_write k m a v) ∙ sized.by_write k m a v
  tree_size (idle p) m = tree_size p (b.after_idle m) ∙ sized.by_idle m
  tree_size (peek f) m = tree_size (f (b.peeks m)) (b.after_peek m) ∙ sized.by_peek m
  tree_size (write_and_take a v f) m =
      tree_size (f (b.peeks (b.after_write Stack m a v))) (b.after_take (b.after_write Stack m a v)) ∙ sized.by_take (b.after_write Stack m a v) ∙ sized.by_write Stack m a v

  admitted_size : (v : Admission) (s : Cpu) (m : W) → b.size (admitted v b s m).memory ≡ b.size m
  admitted_size accepted s m = tree_size (step_tree s) m
  admitted_size (refused_as r) s m = refl

  pub step_size : (s : Cpu) (m : W) → b.size (step_on b s m).memory ≡ b.size m
  unfolding step_on
  step_size s m = admitted_size (admission b s m) s m

  pub run_size_lem : (budget : ℕ) (s : Cpu) (m : W) → b.size (run_for b budget s m).memory ≡ b.size m
  run_size_lem budget s m =
      (run_keeps b (λ t w. b.size w ≡ b.size m) (λ o. Unit {0}) (λ t w e. (step_size t w ∙ e, tt)) budget s m (λ r e. tt) refl).0

-- The ranges.

-- every register in its range with F's low bits 0, and a good memory
abbrev pub InRange : {W : Type 0} → (W → Type 0) → Cpu → W → Type 0
InRange Good s m = Ranged s.registers × Good m

abbrev EndRanged : Ended → Type 0
EndRanged e = OutcomeRanged e.outcome × Ranged e.cpu.registers

module _ {W : Type 0} (b : Bus W) (Good : W → Type 0) (law : Lawful b Good) where
  tree_ranges : {A : Type 0} (Q : A → Type 0) (p : Ask A) (m : W) → Safe Q p → Good m → Q (run_on b p m).value × Good (run_on b p m).memory
  unfolding run_on
  tree_ranges Q (leaf a) m h g = (h, g)
  tree_ranges Q (read k a f) m h g =
      tree_ranges Q (f (b.sees m a)) (b.after_read k m a) (h.1 (b.sees m a) (law.shows m a g h.0)) (law.read_good k m a g h.0)
  tree_ranges Q (write k a v p) m h g = tree_ranges Q p (b.after_write k m a v) h.2 (law.write_good k m a v g h.0 h.1)
  tree_ranges Q (idle p) m h g = tree_ranges Q p (b.after_idle m) h (law.idle_good m g)
  tree_ranges Q (peek f) m h g = tree_ranges Q (f (b.peeks m)) (b.after_peek m) (h (b.peeks m)) (law.peek_good m g)
  tree_ranges Q (write_and_take a v f) m h g =
      let w : W = b.after_write Stack m a v in
      let good : Good w = law.write_good Stack m a v g h.0 h.1 in
      tree_ranges Q (f (b.peeks w)) (b.after_take w) (h.2 (b.peeks w)) (law.take_good w good)

  tree_safe : (s : Cpu) → Ranged s.registers → Safe EndRanged (step_tree s)
  tree_safe s r = step_keeps.from s ended r (λ o t p q. (p, q))

  admitted_ranges : (v : Admission) (s : Cpu) (m : W) → InRange Good s m → InRange Good (admitted v b s m).value.cpu (admitted v b s m).memory × OutcomeRanged (admitted v b s m).value.outcome
  admitted_ranges accepted s m h =
      let e : EndRanged (run_on b (step_tree s) m).value × Good (run_on b (step_tree s) m).memory = tree_ranges EndRanged (step_tree s) m (tree_safe s h.0) h.1 in
      ((e.0.1, e.1), e.0.0)
  admitted_ranges (refused_as r) s m h = (h, tt)

  pub step_ranges : (s : Cpu) (m : W) → InRange Good s m → InRange Good (step_on b s m).value.cpu (step_on b s m).memory × OutcomeRanged (step_on b s m).value.outcome
  unfolding step_on
  step_ranges s m h = admitted_ranges (admission b s m) s m h

  pub run_ranges : (budget : ℕ) (s : Cpu) (m : W) → InRange Good s m → InRange Good (run_for b budget s m).cpu (run_for b budget s m).memory × LastSays OutcomeRanged (run_for b budget s m).last
  run_ranges budget s m h = run_keeps b (InRange Good) OutcomeRanged step_ranges budget s m (λ r e. tt) h

-- Plain memory: its length stays, for every state and every list; every byte stays a byte.

abbrev pub Bytes : List ℕ → Type 0
Bytes m = (a : ℕ) → byte_at m a < 256

taken_length : (m : List ℕ) (i : Option InterruptType) → length (without i m) ≡ length m
taken_length m None = refl
taken_length m (Some i) = length-set m 0xff0f _

pub plain_sized : Sized plain
unfolding taken
plain_sized =
    record {
      by_read = λ k m a. refl;
      by_write = λ k m a v. length-set m a v;
      by_idle = λ m. refl;
      by_peek = λ m. refl;
      by_take = λ m. taken_length m (pending m);
    }

pub step_length : (s : Cpu) (m : List ℕ) → length (step_on plain s m).memory ≡ length m
step_length s m = step_size plain plain_sized s m

pub run_length : (budget : ℕ) (s : Cpu) (m : List ℕ) → length (run_for plain budget s m).memory ≡ length m
run_length budget s m = run_size_lem plain plain_sized budget s m

set_there : (m : List ℕ) (a v : ℕ) (t : Bool) → ltb a (length m) ≡ t → Bytes m → v < 256 → byte_at (set m a v) a < 256
set_there m a v true e g p = subst (λ (x : ℕ). x < 256) (sym (get_or-set_same m a v 0 (ltb-true a (length m) e))) p
set_there m a v false e g p = subst (λ (l : List ℕ). byte_at l a < 256) (sym (set_out m a v (ltb-false a (length m) e))) (g a)

set_bytes : (m : List ℕ) (a v x : ℕ) (t : Bool) → eqb x a ≡ t → Bytes m → v < 256 → byte_at (set m a v) x < 256
set_bytes m a v x true e g p =
    subst (λ (y : ℕ). byte_at (set m a v) y < 256) (sym (eqb-true x a e)) (set_there m a v (ltb a (length m)) refl g p)
set_bytes m a v x false e g p = subst (λ (y : ℕ). y < 256) (sym (get_or-set_other m a x v 0 (eqb-false x a e))) (g x)

taken_bytes : (m : List ℕ) (i : Option InterruptType) → Bytes m → Bytes (without i m)
taken_bytes m None g = g
taken_bytes m (Some i) g = λ x. set_bytes m 0xff0f _ x (eqb x 0xff0f) refl g (cleared_byte (interrupt_number i) (byte_at m 0xff0f) (g 0xff0f))

pub plain_lawful : Lawful plain Bytes
unfolding taken
plain_lawful =
    record {
      shows = λ m a g p. g a;
      read_good = λ k m a g p. g;
      write_good = λ k m a v g p q x. set_bytes m a v x (eqb x a) refl g q;
      idle_good = λ m g. g;
      peek_good = λ m g. g;
      take_good = λ m g. taken_bytes m (pending m) g;
    }
