-- What an entry of the code's two tables stands for, and what the tables have to be.
use Rattle.std.specs.Prelude.{◌≡◌, List, ℕ, ◌<◌, slice_index_or}
use Rattle.opcodes.specs.Instruction.{decode, decode_cb}
use Rattle.instruction.specs.declared.Opcode.{Opcode}
use Rattle.instruction.specs.declared.Opcode.TheVariants as op
use Rattle.instruction.specs.declared.OperandType.{OperandType}
use Rattle.instruction.specs.declared.OperandType.TheVariants as ot
use Rattle.instruction.specs.declared.Instruction.{Instruction}
use Rattle.instruction.specs.Row.{row, row_of, prefixed_row}

abbrev pub Entry : Type 0
Entry = Opcode × (OperandType × OperandType)

-- an opcode, where its result goes, where its operand comes from
abbrev pub row_at : Entry → Instruction
row_at e = row e.0 e.1.0 e.1.1

abbrev pub nothing : Entry
nothing = (op.Nop, (ot.RegA, ot.RegA))

-- tables whose entry at each byte stands for the instruction that the definition decodes from it
unfoldable pub Unprefixed : List Entry → Type 0
Unprefixed t = (b : ℕ) → b < 256 → row_at (slice_index_or t b nothing) ≡ row_of (decode b)

unfoldable pub Prefixed : List Entry → Type 0
Prefixed t = (b : ℕ) → b < 256 → row_at (slice_index_or t b nothing) ≡ prefixed_row (decode_cb b)
