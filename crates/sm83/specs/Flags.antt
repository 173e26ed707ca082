-- F: four flags in a byte.
use Rattle.std.specs.Prelude.{◌≡◌, ℕ, ◌+◌, ◌*◌, ◌/◌, ◌%◌, ◌≤◌, Bool, ◌==◌}
use Rattle.sm83.specs.Basics.{bit}

-- "one byte whose upper half is used": Z N H C, and four bits 0
abbrev pub flag_byte : Bool → Bool → Bool → Bool → ℕ
flag_byte z n h c = bit z * 128 + bit n * 64 + bit h * 32 + bit c * 16

abbrev pub flag_z : ℕ → Bool
flag_z f = f / 128 % 2 == 1

abbrev pub flag_n : ℕ → Bool
flag_n f = f / 64 % 2 == 1

abbrev pub flag_h : ℕ → Bool
flag_h f = f / 32 % 2 == 1

abbrev pub flag_c : ℕ → Bool
flag_c f = f / 16 % 2 == 1

-- a truth value that weighs w, and is no more than that
pub record Weighs (on : Bool) (w r : ℕ) : Type 0 where
  pub is : r ≡ bit on * w
  pub small : r ≤ w

-- a truth value as 0 or 1
pub record IsBit (on : Bool) (r : ℕ) : Type 0 where
  pub is : r ≡ bit on
  pub small : r ≤ 1
