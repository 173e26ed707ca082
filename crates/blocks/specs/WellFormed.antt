-- The flags of the state block, at 12, 13, 15, 16 and 17, and the halt mode at 14.
use Rattle.std.specs.Prelude.{Bool, ◌&&◌, List, ℕ, leb}
use Rattle.definition.specs.Bus.{byte_at}

-- a flag is 0 or 1
abbrev pub is_flag : ℕ → Bool
is_flag b = leb b 1

abbrev pub flags_well_formed : List ℕ → Bool
flags_well_formed block =
    is_flag (byte_at block 12) && (is_flag (byte_at block 13) && (leb (byte_at block 14) 3 && (is_flag (byte_at block 15) && (is_flag (byte_at block 16) && is_flag (byte_at block 17)))))
