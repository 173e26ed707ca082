-- Bytes in the registers, and values that the code's `as u8` keeps: bytes, and a signed byte's low half.
use Rattle.std.proofs.Common.{if◌then◌else◌}
use mathlib.Core.Path.{◌≡◌}
use mathlib.Core.Bool.{Bool, true, false}
use Prim.Native.Nat.{ℕ, ◌+◌, ◌<◌}
use native.Mathlib.Omega.{arith}
use lib.Dec.{ltb}
use Rattle.sm83.specs.declared.CpuRegisters.{CpuRegisters}
use Rattle.sm83.specs.Basics.{low_byte, signed}

-- the registers that an r8 names, F aside
pub record ByteRegisters (r : CpuRegisters) : Type 0 where
  pub small_a : r.a < 256
  pub small_b : r.b < 256
  pub small_c : r.c < 256
  pub small_d : r.d < 256
  pub small_e : r.e < 256
  pub small_h : r.h < 256
  pub small_l : r.l < 256

pub kept : {v : ℕ} → v < 256 → low_byte v ≡ v
kept {v} h = omega arith

-- a signed byte that has been extended still has that low byte
pub signed_low : {e : ℕ} → e < 256 → low_byte (signed e) ≡ e
signed_low {e} h = by_sign (ltb e 128)
  where
    by_sign : (b : Bool) → low_byte (if b then e else e + 0xff00) ≡ e
    by_sign true = kept h
    by_sign false = omega arith
