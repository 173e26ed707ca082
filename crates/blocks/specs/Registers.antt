-- The registers in twelve bytes: 0 A, 1 F, 2 B, 3 C, 4 D, 5 E, 6 H, 7 L, 8-9 SP, 10-11 PC.
use Rattle.std.specs.Prelude.{List, ◌∷◌, ◌++◌, ℕ, ◌+◌}
use Rattle.sm83.specs.declared.CpuRegisters.{CpuRegisters}
use Rattle.sm83.specs.State.{registers_of}
use Rattle.definition.specs.Bus.{byte_at}
use Rattle.blocks.specs.Bytes.{word_bytes, word_at}

abbrev pub register_bytes : CpuRegisters → List ℕ
register_bytes r = r.a ∷ r.f ∷ r.b ∷ r.c ∷ r.d ∷ r.e ∷ r.h ∷ r.l ∷ word_bytes r.sp.0 ++ word_bytes r.pc.0

-- the registers that stand at an offset
abbrev pub registers_at : List ℕ → ℕ → CpuRegisters
registers_at block at =
    registers_of
    (byte_at block at)
    (byte_at block (at + 1))
    (byte_at block (at + 2))
    (byte_at block (at + 3))
    (byte_at block (at + 4))
    (byte_at block (at + 5))
    (byte_at block (at + 6))
    (byte_at block (at + 7))
    (word_at block (at + 8))
    (word_at block (at + 10))
