-- Words, counts, flags and halt modes: written and read they are the same, and read and written.
use mathlib.Core.Path.{◌≡◌, refl}
use mathlib.Core.Bool.{Bool, true, false}
use Prim.Native.Nat.{ℕ, zero, suc, ◌+◌, ◌*◌, ◌/◌, ◌%◌, ◌<◌, ◌≤◌}
use native.Mathlib.Omega.{arith}
use lib.Dec.{eqb, leb}
use Rattle.sm83.specs.declared.HaltMode.{HaltMode}
use Rattle.sm83.specs.declared.HaltMode.TheVariants.{NotHalting, HaltRunInterrupt, HaltNoRunInterrupt, HaltBug}
use Rattle.sm83.specs.Basics.{bit, word, high_byte, low_byte}
use Rattle.blocks.specs.WellFormed.{is_flag}
use Rattle.blocks.specs.StateBlock.{halt_number, halt_at}

-- written and read

pub word_there_lem : (w : ℕ) → word (high_byte w) (low_byte w) ≡ w
word_there_lem w = omega arith

pub count_there : (n : ℕ) → word (high_byte (n / 65536)) (low_byte (n / 65536)) * 65536 + word (high_byte (n % 65536)) (low_byte (n % 65536)) ≡ n
count_there n = omega arith

pub flag_there : (on : Bool) → eqb (bit on) 1 ≡ on
flag_there true = refl
flag_there false = refl

pub flag_well : (on : Bool) → is_flag (bit on) ≡ true
flag_well true = refl
flag_well false = refl

pub halt_there : (h : HaltMode) → halt_at (halt_number h) ≡ h
halt_there NotHalting = refl
halt_there HaltRunInterrupt = refl
halt_there HaltNoRunInterrupt = refl
halt_there HaltBug = refl

pub halt_well : (h : HaltMode) → leb (halt_number h) 3 ≡ true
halt_well NotHalting = refl
halt_well HaltRunInterrupt = refl
halt_well HaltNoRunInterrupt = refl
halt_well HaltBug = refl

-- read and written

pub low_back : (high low : ℕ) → low < 256 → low_byte (word high low) ≡ low
low_back high low small = omega arith

pub high_back : (high low : ℕ) → low < 256 → high_byte (word high low) ≡ high
high_back high low small = omega arith

pub flag_back : (b : ℕ) → b ≤ 1 → bit (eqb b 1) ≡ b
flag_back zero small = refl
flag_back (suc zero) small = refl
flag_back (suc (suc b)) small = absurd (omega arith)

pub halt_back : (b : ℕ) → b ≤ 3 → halt_number (halt_at b) ≡ b
halt_back zero small = refl
halt_back (suc zero) small = refl
halt_back (suc (suc zero)) small = refl
halt_back (suc (suc (suc zero))) small = refl
halt_back (suc (suc (suc (suc b)))) small = absurd (omega arith)
