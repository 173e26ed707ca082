-- The definition's results as the values that the code returns.
use Rattle.std.specs.Prelude.{ℕ, Bool}
use Rattle.sm83.specs.Flags.{flag_byte}
use Rattle.opcodes.specs.Arithmetic.{Result}
use Rattle.arithmetic.specs.declared.Computed.{Computed}

abbrev pub computed : Result → Computed ℕ
computed r = record { value = r.value; flags = r.flags }

-- and back
abbrev pub result_of : Computed ℕ → Result
result_of r = record { value = r.value; flags = r.flags }

-- a byte with its four flags
abbrev pub byte_with : ℕ → Bool → Bool → Bool → Bool → Computed ℕ
byte_with v z n h c = record { value = v; flags = flag_byte z n h c }
