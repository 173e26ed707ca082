-- The code's memory: bytes that the caller lends, and a port that counts the M-cycles. What it shows and what an access leaves is shut: above this crate a proof knows only where a tree leads.
use Rattle.std.specs.Prelude.{◌≡◌, ℕ, ◌+◌, ◌%◌, List, slice_set, Option}
use Rattle.definition.specs.Bus.{Bus, Kind, Fetch, Operand, Stack, Ask, leaf, read, write, idle, peek, write_and_take, byte_at, pending, taken, plain}
use Rattle.definition.specs.Step.{Ended}
use Rattle.bus.specs.declared.AccessKind.{AccessKind}
use Rattle.bus.specs.declared.AccessKind.TheVariants as said
use Rattle.bus.specs.declared.Port.{Port}
use Rattle.outcome.specs.declared.interrupt.InterruptType.{InterruptType}

pub record World : Type 0 where
  pub port : Port
  pub bytes : List ℕ

abbrev pub world : Port → List ℕ → World
world p m = record { port = p; bytes = m }

-- the kind of access that the code says
abbrev pub kind_of : AccessKind → Kind
kind_of said.Fetch = Fetch
kind_of said.Operand = Operand
kind_of said.Stack = Stack

-- one M-cycle more
abbrev pub counted : Port → Port
counted p = record { cycles = record { 0 = (p.cycles.0 + 1) % 4294967296 } }

-- What it shows, and what each access leaves.

unfoldable pub shown : World → ℕ → ℕ
shown w a = byte_at w.bytes a

unfoldable pub after_read : Kind → World → ℕ → World
after_read k w a = world (counted w.port) w.bytes

unfoldable pub after_write : Kind → World → ℕ → ℕ → World
after_write k w a v = world (counted w.port) (slice_set w.bytes a v)

unfoldable pub after_idle : World → World
after_idle w = world (counted w.port) w.bytes

unfoldable pub peeked : World → Option InterruptType
peeked w = pending w.bytes

unfoldable pub after_take : World → World
after_take w = world w.port (taken w.bytes)

-- a proof that says `unfolding accessing` opens them all
unfoldable pub accessing : ℕ
unfolding shown after_read after_write after_idle peeked after_take
accessing = 0

-- where a tree leads: its answer and the world that it leaves
pub record Led (A : Type 0) : Type 0 where
  pub value : A
  pub left : World

unfoldable pub leads : {A : Type 0} → Ask A → World → Led A
leads (leaf a) w = record { value = a; left = w }
leads (read k a f) w = leads (f (shown w a)) (after_read k w a)
leads (write k a v p) w = leads p (after_write k w a v)
leads (idle p) w = leads p (after_idle w)
leads (peek f) w = leads (f (peeked w)) w
leads (write_and_take a v f) w = leads (f (peeked (after_write Stack w a v))) (after_take (after_write Stack w a v))

-- What an access does, as contracts state it: whatever comes next, the definition's node leads where the rest leads from the port and the bytes that the code answers.

-- with a value
pub record Gives {A : Type 0} (node : (A → Ask Ended) → Ask Ended) (port : Port) (m : List ℕ) (v : A) (port' : Port) (m' : List ℕ) : Type 0 where
  pub there : (rest : A → Ask Ended) → leads (node rest) (world port m) ≡ leads (rest v) (world port' m')

-- with none
pub record Leaves (node : Ask Ended → Ask Ended) (port : Port) (m : List ℕ) (port' : Port) (m' : List ℕ) : Type 0 where
  pub there : (rest : Ask Ended) → leads (node rest) (world port m) ≡ leads rest (world port' m')

-- at no cost: the port stays, whatever it is
pub record Looks {A : Type 0} (node : (A → Ask Ended) → Ask Ended) (m : List ℕ) (v : A) (m' : List ℕ) : Type 0 where
  pub there : (port : Port) (rest : A → Ask Ended) → leads (node rest) (world port m) ≡ leads (rest v) (world port m')

abbrev pub Reads : Kind → ℕ → Port → List ℕ → ℕ → Port → List ℕ → Type 0
Reads k a = Gives (read k a)

abbrev pub Writes : Kind → ℕ → ℕ → Port → List ℕ → Port → List ℕ → Type 0
Writes k a v = Leaves (write k a v)

abbrev pub Idles : Port → List ℕ → Port → List ℕ → Type 0
Idles = Leaves idle

abbrev pub Peeks : List ℕ → Option InterruptType → List ℕ → Type 0
Peeks = Looks peek

-- the push that takes an interrupt
abbrev pub Takes : ℕ → ℕ → Port → List ℕ → Option InterruptType → Port → List ℕ → Type 0
Takes a v = Gives (write_and_take a v)

-- Which of the definition's memories stands behind it: plain memory, the same bytes. (Proved of every tree in proofs/Following; the run's loop names it by this name alone.)
abbrev pub behind : Bus (List ℕ)
behind = plain
