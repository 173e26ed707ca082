-- No instruction has an operand that cannot be read or a result that cannot be written: "`unreachable!` arms (operand kinds that cannot be read or written): shown impossible from the tables".
use mathlib.Core.Path.{◌≡◌, refl}
use mathlib.Core.Bool.{true}
use Prim.Native.Nat.{ℕ, ◌<◌}
use Rattle.opcodes.specs.Instruction.{decode, decode_cb}
use Rattle.opcodes.proofs.Tested.{agree}
use Rattle.instruction.specs.Row.{row_of, prefixed_row}
use Rattle.instruction.specs.Operand.{readable, writable}

pub source_readable : (b : ℕ) → b < 256 → readable (row_of (decode b)).src ≡ true
unfolding decode
source_readable = agree _ _ 256 refl

pub dest_writable : (b : ℕ) → b < 256 → writable (row_of (decode b)).dest ≡ true
unfolding decode
dest_writable = agree _ _ 256 refl

pub source_readable_cb : (b : ℕ) → b < 256 → readable (prefixed_row (decode_cb b)).src ≡ true
unfolding decode_cb
source_readable_cb = agree _ _ 256 refl

pub dest_writable_cb : (b : ℕ) → b < 256 → writable (prefixed_row (decode_cb b)).dest ≡ true
unfolding decode_cb
dest_writable_cb = agree _ _ 256 refl
