-- What a step asks of memory, in order, as a tree; the list of accesses that it comes to; and plain memory.
use Rattle.std.specs.Prelude.{List, [], ◌∷◌, ℕ, eqb, get_or, set, length, if◌then◌else◌, None, Option, Some}
use Rattle.std.specs.Int.Bits.{bit_and}
use Rattle.sm83.specs.Basics.{bit_at, cleared}
use Rattle.outcome.specs.declared.interrupt.InterruptType.TheVariants.{Vblank, LcdStat, Timer, Serial, Joypad}
use Rattle.outcome.specs.Interrupts.{interrupt_number}
use Rattle.outcome.specs.declared.interrupt.InterruptType.{InterruptType}

-- What an access is for. No promise is made about it yet (02, request 9).
pub data Kind : Type 0 where
  Fetch Operand Stack : Kind

-- A leaf, which asks nothing more, or one access and what follows on what memory says to it. Peeking costs nothing and is no access.
-- The push that takes an interrupt is one access: the write of PC's high byte, then the take.
pub data Ask (A : Type 0) : Type 0 where
  leaf : A → Ask A
  read : Kind → ℕ → (ℕ → Ask A) → Ask A
  write : Kind → ℕ → ℕ → Ask A → Ask A
  idle : Ask A → Ask A
  peek : (Option InterruptType → Ask A) → Ask A
  write_and_take : ℕ → ℕ → (Option InterruptType → Ask A) → Ask A

-- "A read, a write or an idle access costs one M-cycle": each entry of the list is one of them.
pub data Access : Type 0 where
  Read : Kind → ℕ → Access
  Write : Kind → ℕ → ℕ → Access
  Idle : Access
  WriteAndTake : ℕ → ℕ → Access

-- A kind of memory: how long it is, what it shows, and what each access leaves.
pub record Bus (W : Type 0) : Type 0 where
  pub size : W → ℕ
  pub sees : W → ℕ → ℕ
  pub after_read : Kind → W → ℕ → W
  pub after_write : Kind → W → ℕ → ℕ → W
  pub after_idle : W → W
  pub peeks : W → Option InterruptType
  pub after_peek : W → W
  pub after_take : W → W

-- What came of it: the answer, the memory, and the accesses in order.
pub record Performed (W A : Type 0) : Type 0 where
  pub value : A
  pub memory : W
  pub accesses : List Access

abbrev pub logged : {W A : Type 0} → Access → Performed W A → Performed W A
logged a r = record { value = r.value; memory = r.memory; accesses = a ∷ r.accesses }

-- The tree on any kind of memory.
unfoldable pub run_on : {W A : Type 0} → Bus W → Ask A → W → Performed W A
run_on b (leaf a) m = record { value = a; memory = m; accesses = [] }
run_on b (read k a f) m = logged (Read k a) (run_on b (f (b.sees m a)) (b.after_read k m a))
run_on b (write k a v p) m = logged (Write k a v) (run_on b p (b.after_write k m a v))
run_on b (idle p) m = logged Idle (run_on b p (b.after_idle m))
run_on b (peek f) m = run_on b (f (b.peeks m)) (b.after_peek m)
run_on b (write_and_take a v f) m = logged (WriteAndTake a v) (run_on b (f (b.peeks (b.after_write Stack m a v))) (b.after_take (b.after_write Stack m a v)))

-- "M-cycles equal to its length"
abbrev pub mcycles : List Access → ℕ
mcycles l = length l

-- "the lowest set bit wins"
abbrev pub lowest : ℕ → Option InterruptType
lowest x =
    if eqb (bit_at 0 x) 1 then Some Vblank
    else (if eqb (bit_at 1 x) 1 then Some LcdStat
    else (if eqb (bit_at 2 x) 1 then Some Timer
    else (if eqb (bit_at 3 x) 1 then Some Serial
    else (if eqb (bit_at 4 x) 1 then Some Joypad else None))))

-- Plain memory: a list of 65,536 bytes.

abbrev pub byte_at : List ℕ → ℕ → ℕ
byte_at m a = get_or m a 0

-- "Peeking sees byte 0xFF0F AND byte 0xFFFF AND 0x1F"
unfoldable pub pending : List ℕ → Option InterruptType
pending m = lowest (bit_and (bit_and (byte_at m 0xff0f) (byte_at m 0xffff)) 0x1f)

-- "Taking it clears that bit alone at 0xFF0F"
abbrev pub without : Option InterruptType → List ℕ → List ℕ
without None m = m
without (Some i) m = set m 0xff0f (cleared (interrupt_number i) (byte_at m 0xff0f))

unfoldable pub taken : List ℕ → List ℕ
taken m = without (pending m) m

abbrev pub plain : Bus (List ℕ)
plain =
    record {
      size = λ m. length m;
      sees = λ m a. byte_at m a;
      after_read = λ k m a. m;
      after_write = λ k m a v. set m a v;
      after_idle = λ m. m;
      peeks = pending;
      after_peek = λ m. m;
      after_take = taken;
    }
