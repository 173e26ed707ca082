-- What the columns say of an instruction's accesses after the first fetch and of its end.
use mathlib.Core.Path.{◌≡◌, refl}
use mathlib.Core.Bool.{Bool, false, not}
use mathlib.Core.List.{List, [], ◌∷◌}
use Prim.Native.Nat.{ℕ, zero, suc}
use lib.Dec.{T}
use lib.ListN.{length}
use Rattle.sm83.specs.declared.Cpu.{Cpu}
use Rattle.outcome.specs.declared.Outcome.TheVariants.{Normal}
use Rattle.sm83.specs.Basics.{next}
use Rattle.definition.specs.Bus.{Access, Read, Write, Idle, WriteAndTake}
use Rattle.sm83.specs.State.{pc, flags}
use Rattle.definition.specs.Step.{Ended}
use Rattle.opcodes.specs.Published.{FlagColumn, keep}
use Rattle.definition.proofs.Refused.{is_refused}
use Rattle.opcodes.proofs.FlagLaws.{Obeys, same_obeys}

-- so many bytes further, one after the other
abbrev pub ahead : ℕ → ℕ → ℕ
ahead zero a = a
ahead (suc k) a = ahead k (next a)

-- the list begins with reads of so many bytes, from an address on
abbrev pub Begins : ℕ → ℕ → List Access → Type 0
Begins zero a l = Unit {0}
Begins (suc k) a [] = ⊥
Begins (suc k) a (Read c x ∷ l) = (x ≡ a) × Begins k (next a) l
Begins (suc k) a (Write c x v ∷ l) = ⊥
Begins (suc k) a (Idle ∷ l) = ⊥
Begins (suc k) a (WriteAndTake x v ∷ l) = ⊥

-- From the PC and F that the first fetch leaves: so many M-cycles and operand bytes more, a jump or not, refused or not, and the flags column.
pub record Columns (more operands : ℕ) (jumping refused : Bool) (column : FlagColumn) (p f : ℕ) (l : List Access) (e : Ended) : Type 0 where
  pub count : length l ≡ more
  pub reads : Begins operands p l
  pub onward : T (not jumping) → T (not refused) → pc e.cpu ≡ ahead operands p
  pub changes : Obeys column f (flags e.cpu)
  pub answers : is_refused e.outcome ≡ refused

-- an instruction that goes on to the next
abbrev pub Onward : ℕ → ℕ → FlagColumn → ℕ → ℕ → List Access → Ended → Type 0
Onward more operands column = Columns more operands false false column

pub onwards : {more operands : ℕ} {column : FlagColumn} {p f : ℕ} {t : Cpu} {l : List Access} → length l ≡ more → Begins operands p l → pc t ≡ ahead operands p → Obeys column f (flags t) → Onward more operands column p f l (record { outcome = Normal; cpu = t })
onwards n r to o = record { count = n; reads = r; onward = λ x y. to; changes = o; answers = refl }

-- the same where the flags stay
pub keeps : {more operands p f : ℕ} {t : Cpu} {l : List Access} → length l ≡ more → Begins operands p l → pc t ≡ ahead operands p → flags t ≡ f → Onward more operands keep p f l (record { outcome = Normal; cpu = t })
keeps n r to same = onwards n r to (same_obeys _ _ same)

-- a jump
pub jumped : {more operands : ℕ} {jumping : Bool} {p f : ℕ} {l : List Access} {e : Ended} → length l ≡ more → Begins operands p l → (T (not jumping) → pc e.cpu ≡ ahead operands p) → flags e.cpu ≡ f → is_refused e.outcome ≡ false → Columns more operands jumping false keep p f l e
jumped n r to same o = record { count = n; reads = r; onward = λ x y. to x; changes = same_obeys _ _ same; answers = o }
