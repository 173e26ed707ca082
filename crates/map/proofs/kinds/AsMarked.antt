-- A window that passes: the bytes drawn as a start, a jump's or another's, are exactly those that the screen marks, and as many instructions are counted.
use Rattle.std.proofs.Common.{if◌then◌else◌, None, Ok}
use mathlib.Core.Path.{◌≡◌, refl, sym, ap, ap₂, ◌∙◌}
use mathlib.Core.Bool.{Bool, true, false}
use mathlib.Core.List.{List, ◌∷◌, map}
use Prim.Native.Nat.{ℕ, zero, suc, ◌+◌, ◌≤◌, ◌<◌}
use native.Mathlib.Omega.{arith}
use lib.Dec.{eqb}
use borrow.Author.Tests.{ne_eqb}
use lib.ListN.{get_or, length, get_or-map}
use Rattle.sm83.specs.Basics.{bit, next}
use Rattle.definition.specs.Bus.{byte_at}
use Rattle.opcodes.specs.Instruction.{decode, operands}
use Rattle.routine.specs.Flow.{instruction_at}
use Rattle.routine.specs.Screen.{marks_from, screen}
use Rattle.routine.proofs.Marks.{marks_length}
use Rattle.routine.proofs.Before.{window}
use Rattle.routine.proofs.WholeScreen.{when_passed}
use Rattle.map.specs.declared.kinds.Kind.{Kind}
use Rattle.map.specs.declared.kinds.Kind.TheVariants as kind
use Rattle.map.specs.declared.kinds.Cell.{Cell}
use Rattle.map.specs.declared.walk.Walk.{Walk}
use Rattle.map.specs.Opcode.{is_jump}
use Rattle.map.specs.Counts.{starts_at, how_many, counts_of}
use Rattle.map.specs.Kinds.{cell, start_kind, cell_of, cell_at, kinds_from, kinds_of}

abbrev pub is_start : Kind → Bool
is_start kind.NotReached = false
is_start kind.Start = true
is_start kind.Operand = false
is_start kind.Jump = true
is_start kind.Refused = false

-- as the marks have it: 1 for a start, 0 for each other byte
abbrev pub mark_of : Kind → ℕ
mark_of k = bit (is_start k)

start_marked : (jump : Bool) → mark_of (if jump then kind.Jump else kind.Start) ≡ 1
start_marked true = refl
start_marked false = refl

abbrev going : ℕ → Walk
going left = record { left = left }

start_cell : (b : ℕ) → cell_of (going 0) b ≡ cell (start_kind b) (operands (decode b))
unfolding cell_of
start_cell b = refl

operand_cell : (k b : ℕ) → cell_of (going (suc k)) b ≡ cell kind.Operand k
unfolding cell_of
operand_cell k b = rw (ne_eqb (suc k) 0 (λ e. omega arith))

module _ (m : List ℕ) where
  -- inside the memory no address wraps
  unwrapped : (c : Cell) (a n : ℕ) → a + suc n ≤ 65536 → kinds_from m None c (next a) n ≡ kinds_from m None c (suc a) n
  unfolding kinds_from
  unwrapped c a zero fits = refl
  unwrapped c a (suc n) fits =
      let up : next a ≡ suc a = omega arith in
      ap (λ (b : ℕ). kinds_from m None c b (suc n)) up

  -- a byte at a, and the n bytes after it
  abbrev drawn : ℕ → ℕ → Cell → List ℕ
  drawn a n c = map mark_of (c.kind ∷ kinds_from m None c (next a) n)

  -- with k bytes of an instruction still to come, the walk that draws and the walk that marks go the same way
  walked : (before : Kind) (k a n : ℕ) → a + n ≤ 65536 → map mark_of (kinds_from m None (cell before k) a n) ≡ marks_from m k a n
  unfolding kinds_from marks_from cell_at
  walked before zero a zero fits = refl
  walked before (suc k) a zero fits = refl
  walked before zero a (suc n) fits =
      let c : Cell = cell (start_kind (byte_at m a)) (operands (instruction_at m a)) in
      ap (drawn a n) (start_cell (byte_at m a)) ∙ ap₂ (λ (x : ℕ) (l : List ℕ). x ∷ l) (start_marked (is_jump (byte_at m a))) (ap (map mark_of) (unwrapped c a n fits) ∙ walked c.kind c.walk.left (suc a) n (omega arith))
  walked before (suc k) a (suc n) fits =
      ap (drawn a n) (operand_cell k (byte_at m a)) ∙ ap (λ (l : List ℕ). 0 ∷ l) (ap (map mark_of) (unwrapped (cell kind.Operand k) a n fits) ∙ walked kind.Operand k (suc a) n (omega arith))

same_count : (p q : ℕ → Bool) → ((i : ℕ) → p i ≡ q i) → (n : ℕ) → how_many p n ≡ how_many q n
unfolding how_many
same_count p q same zero = refl
same_count p q same (suc n) = ap₂ (λ (k : ℕ) (b : Bool). k + bit b) (same_count p q same n) (same n)

one_bit : (b : Bool) → eqb (bit b) 1 ≡ b
one_bit true = refl
one_bit false = refl

module _ (m : List ℕ) (first last : ℕ) (marks : List ℕ) (passes : (screen m first last marks).verdict ≡ Ok tt) (address : last < 65536) where
  abbrev n : ℕ
  n = window first last

  abbrev pub kinds : List Kind
  kinds = kinds_of m first (Ok tt) n

  abbrev pub marked : List ℕ
  marked = (screen m first last marks).marks

  pub drawn_as_marked : map mark_of kinds ≡ marked
  unfolding kinds_of
  drawn_as_marked = walked m kind.NotReached 0 first n (omega (arith, (when_passed m first last marks passes).0.order)) ∙ sym (when_passed m first last marks passes).2

  pub counted_as_drawn : (counts_of m first marked).instructions ≡ how_many (λ i. is_start (get_or kinds i kind.NotReached)) n
  unfolding counts_of
  counted_as_drawn = ap (how_many (starts_at marked)) (ap length (when_passed m first last marks passes).2 ∙ marks_length m first n) ∙ same_count (starts_at marked) (λ i. is_start (get_or kinds i kind.NotReached)) same n
    where
      same : (i : ℕ) → starts_at marked i ≡ is_start (get_or kinds i kind.NotReached)
      same i = ap (λ (l : List ℕ). starts_at l i) (sym drawn_as_marked) ∙ ap (λ (x : ℕ). eqb x 1) (get_or-map mark_of kinds i kind.NotReached) ∙ one_bit (is_start (get_or kinds i kind.NotReached))
