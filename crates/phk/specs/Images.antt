-- What a file is as an image: the bytes of memory that it has, the whole or a part, or why it is none.
use Rattle.std.specs.Prelude.{ℕ, ◌-◌, min, Bool, not, ◌&&◌, nat_lt, Result, Ok, Err, if◌then◌else◌}
use Rattle.phk.specs.declared.files.NoImage.{NoImage}
use Rattle.phk.specs.declared.files.NoImage.TheVariants.{TooLong, TooShort}
use Rattle.phk.specs.declared.view.Held.{Held}

abbrev pub held_of : ℕ → ℕ → Held
held_of from n = record { from = from; length = min n 65536 }

-- without --at (`given`) it is the whole memory
abbrev pub image_of : Bool → Bool → ℕ → ℕ → Result Held NoImage
image_of more given from n =
    if more then Err (TooLong (65536 - from)) else (if not given && nat_lt n 65536 then Err (TooShort n) else Ok (held_of from n))
