-- A word and its flags as the value that the code returns.
use Rattle.std.specs.Prelude.{ℕ}
use Rattle.arithmetic.specs.declared.Computed.{Computed}

abbrev pub word_with : ℕ → ℕ → Computed ℕ
word_with w f = record { value = w; flags = f }
