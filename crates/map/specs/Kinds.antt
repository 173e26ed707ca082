-- The picture of a window: of each byte, whether it is not reached, an instruction's start, an operand byte, a jump's start, or the refused byte.
use Rattle.std.specs.Prelude.{false, List, [], ◌∷◌, ℕ, zero, suc, eqb, ltb, if◌then◌else◌, Option, Some, None, Ok, Err}
use Rattle.sm83.specs.declared.Addr.{Addr}
use Rattle.routine.specs.Verdict.{Verdict}
use Rattle.routine.specs.declared.Finding.TheVariants.{BeforeWalk, At}
use Rattle.sm83.specs.Basics.{next}
use Rattle.definition.specs.Bus.{byte_at}
use Rattle.routine.specs.Numbers.{number_of}
use Rattle.map.specs.Opcode.{is_jump}
use Rattle.map.specs.Walk.{left_after}
use Rattle.map.specs.declared.walk.Walk.{Walk}
use Rattle.map.specs.declared.kinds.Kind.{Kind}
use Rattle.map.specs.declared.kinds.Kind.TheVariants as kind
use Rattle.map.specs.declared.kinds.Stop.{Stop}
use Rattle.map.specs.declared.kinds.Cell.{Cell}

-- 7 and 8 end the walk, 9 and 10 are found after it
abbrev pub stop_at : Addr → ℕ → Stop
stop_at a number = record { at = a; ends = ltb number 9 }

abbrev pub stop_of : Verdict → Option Stop
stop_of (Ok done) = None
stop_of (Err (BeforeWalk r)) = None
stop_of (Err (At r a)) = Some (stop_at a (number_of r))

abbrev pub cell : Kind → ℕ → Cell
cell kind left = record { kind = kind; walk = record { left = left }; ended = false }

abbrev pub start_kind : ℕ → Kind
start_kind b = if is_jump b then kind.Jump else kind.Start

-- a byte of the walk
unfoldable pub cell_of : Walk → ℕ → Cell
cell_of walk b = cell (if eqb walk.left 0 then start_kind b else kind.Operand) (left_after walk.left b)

abbrev pub refused : Stop → Cell → Cell
refused stop c = record { kind = kind.Refused; walk = c.walk; ended = stop.ends }

abbrev pub unreached : Cell → Cell
unreached before = record { kind = kind.NotReached; walk = before.walk; ended = before.ended }

-- at the refused byte, if that is here
abbrev pub stopped : Option Stop → ℕ → Cell → Cell
stopped None a c = c
stopped (Some stop) a c = if eqb a stop.at.0 then refused stop c else c

-- the byte b at an address, after the byte before it
unfoldable pub cell_at : Option Stop → Cell → ℕ → ℕ → Cell
cell_at stop before a b = if before.ended then unreached before else stopped stop a (cell_of before.walk b)

-- of n bytes, from an address on; addresses wrap
unfoldable pub kinds_from : List ℕ → Option Stop → Cell → ℕ → ℕ → List Kind
kinds_from m stop before a zero = []
kinds_from m stop before a (suc n) =
    let c : Cell = cell_at stop before a (byte_at m a) in
    c.kind ∷ kinds_from m stop c (next a) n

-- of a window of n bytes, with what the screen says of it
unfoldable pub kinds_of : List ℕ → ℕ → Verdict → ℕ → List Kind
kinds_of m first verdict n = kinds_from m (stop_of verdict) (cell kind.NotReached 0) first n
