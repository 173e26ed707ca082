-- A walk by instruction length: of an instruction some bytes are still to come, and the next byte is one of them, or starts another instruction.
use Rattle.std.specs.Prelude.{ℕ, zero, suc}
use Rattle.opcodes.specs.Instruction.{decode, operands}

-- how many are to come after the byte b
abbrev pub left_after : ℕ → ℕ → ℕ
left_after zero b = operands (decode b)
left_after (suc k) b = k
