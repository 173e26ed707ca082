-- What a sign extension keeps: its low byte is the byte, so that `add_signed8` has the flags that the definition gives for it.
use Rattle.std.proofs.Common.{◌≡◌, ℕ, ◌<◌, refl}
use Rattle.sm83.specs.Basics.{signed, low_byte}
use Rattle.opcodes.proofs.Tested.{agree}

pub low_of_signed : (e : ℕ) → e < 256 → low_byte (signed e) ≡ e
low_of_signed = agree _ _ 256 refl
