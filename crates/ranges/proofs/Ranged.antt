-- Registers in their ranges with F's low bits 0, and the arithmetic that keeps them so.
use Rattle.std.proofs.Common.{if◌then◌else◌}
use mathlib.Core.Path.{◌≡◌}
use mathlib.Core.Bool.{Bool, true, false, not, ◌||◌, ◌&&◌}
use Prim.Native.Nat.{ℕ, zero, suc, ◌+◌, ◌-◌, ◌*◌, ◌/◌, ◌%◌, ◌≤◌, ◌<◌}
use native.Mathlib.Omega.{arith}
use lib.Dec.{eqb, leb, ltb}
use lib.Bits.{bit_and, bit_or, bit_xor, and_le_l, or_lt, xor_lt}
use Rattle.sm83.specs.declared.CpuRegisters.{CpuRegisters}
use Rattle.sm83.specs.Basics.{bit, cleared, raised}
use Rattle.sm83.specs.State.{write_a, write_f, write_sp, write_pc, put_bc, put_de, put_hl}
use Rattle.sm83.specs.Flags.{flag_byte, flag_z, flag_n, flag_h, flag_c}
use Rattle.opcodes.specs.Arithmetic.{carry, is_zero, Result, sum, difference, logical, shifted, without_z, alu_op, acc_op, shift_op, daa, increment, decrement}
use Rattle.opcodes.specs.Instruction.{Alu, ADD, ADC, SUB, SBC, AND, XOR, OR, CP, Acc, RLCA, RRCA, RLA, RRA, DAA, CPL, SCF, CCF, Shift, RLC, RRC, RL, RR, SLA, SRA, SWAP, SRL}

-- every register in its range, and "the low four bits of F are always 0"
pub record Ranged (r : CpuRegisters) : Type 0 where
  pub in_a : r.a < 256
  pub in_b : r.b < 256
  pub in_c : r.c < 256
  pub in_d : r.d < 256
  pub in_e : r.e < 256
  pub in_h : r.h < 256
  pub in_l : r.l < 256
  pub in_f : r.f < 256
  pub low_bits : r.f % 16 ≡ 0
  pub in_sp : r.sp.0 < 65536
  pub in_pc : r.pc.0 < 65536

-- a byte that F may hold
abbrev pub Flags : ℕ → Type 0
Flags f = (f < 256) × (f % 16 ≡ 0)

-- a byte with flags
abbrev pub Sound : Result → Type 0
Sound x = (x.value < 256) × Flags x.flags

bit_most : (t : Bool) → bit t ≤ 1
bit_most true = omega arith
bit_most false = omega arith

pub flags_sound : (z n h c : Bool) → Flags (flag_byte z n h c)
flags_sound z n h c = (omega (arith, bit_most z, bit_most n, bit_most h, bit_most c), omega arith)

-- One register or pair changed.

module _ (r : CpuRegisters) (g : Ranged r) where
  pub ranged_a : (v : ℕ) → v < 256 → Ranged (write_a v r)
  ranged_a v p = record { in_a = p; in_b = g.in_b; in_c = g.in_c; in_d = g.in_d; in_e = g.in_e; in_h = g.in_h; in_l = g.in_l; in_f = g.in_f; low_bits = g.low_bits; in_sp = g.in_sp; in_pc = g.in_pc }

  pub ranged_f : (v : ℕ) → Flags v → Ranged (write_f v r)
  ranged_f v p = record { in_a = g.in_a; in_b = g.in_b; in_c = g.in_c; in_d = g.in_d; in_e = g.in_e; in_h = g.in_h; in_l = g.in_l; in_f = p.0; low_bits = p.1; in_sp = g.in_sp; in_pc = g.in_pc }

  pub ranged_sp : (v : ℕ) → v < 65536 → Ranged (write_sp v r)
  ranged_sp v p = record { in_a = g.in_a; in_b = g.in_b; in_c = g.in_c; in_d = g.in_d; in_e = g.in_e; in_h = g.in_h; in_l = g.in_l; in_f = g.in_f; low_bits = g.low_bits; in_sp = p; in_pc = g.in_pc }

  pub ranged_pc : (v : ℕ) → v < 65536 → Ranged (write_pc v r)
  ranged_pc v p = record { in_a = g.in_a; in_b = g.in_b; in_c = g.in_c; in_d = g.in_d; in_e = g.in_e; in_h = g.in_h; in_l = g.in_l; in_f = g.in_f; low_bits = g.low_bits; in_sp = g.in_sp; in_pc = p }

  pub ranged_bc : (x y : ℕ) → x < 256 → y < 256 → Ranged (put_bc x y r)
  ranged_bc x y p q = record { in_a = g.in_a; in_b = p; in_c = q; in_d = g.in_d; in_e = g.in_e; in_h = g.in_h; in_l = g.in_l; in_f = g.in_f; low_bits = g.low_bits; in_sp = g.in_sp; in_pc = g.in_pc }

  pub ranged_de : (x y : ℕ) → x < 256 → y < 256 → Ranged (put_de x y r)
  ranged_de x y p q = record { in_a = g.in_a; in_b = g.in_b; in_c = g.in_c; in_d = p; in_e = q; in_h = g.in_h; in_l = g.in_l; in_f = g.in_f; low_bits = g.low_bits; in_sp = g.in_sp; in_pc = g.in_pc }

  pub ranged_hl : (x y : ℕ) → x < 256 → y < 256 → Ranged (put_hl x y r)
  ranged_hl x y p q = record { in_a = g.in_a; in_b = g.in_b; in_c = g.in_c; in_d = g.in_d; in_e = g.in_e; in_h = p; in_l = q; in_f = g.in_f; low_bits = g.low_bits; in_sp = g.in_sp; in_pc = g.in_pc }

-- Arithmetic.

sum_sound : (a x i : ℕ) → Sound (sum a x i)
sum_sound a x i = (omega arith, flags_sound (is_zero ((a + x + i) % 256)) false (leb 16 (a % 16 + x % 16 + i)) (leb 256 (a + x + i)))

difference_sound : (a x i : ℕ) → Sound (difference a x i)
difference_sound a x i = (omega arith, flags_sound (is_zero ((256 + a - (x + i)) % 256)) true (ltb (a % 16) (x % 16 + i)) (ltb a (x + i)))

logical_sound : (v : ℕ) (h : Bool) → v < 256 → Sound (logical v h)
logical_sound v h p = (p, flags_sound (is_zero v) false h false)

shifted_sound : (v out : ℕ) → v < 256 → Sound (shifted v out)
shifted_sound v out p = (p, flags_sound (is_zero v) false false (eqb out 1))

without_z_sound : (x : Result) → Sound x → Sound (without_z x)
without_z_sound x p = (p.0, flags_sound false false false (flag_c x.flags))

pub alu_sound : (op : Alu) (a x f : ℕ) → a < 256 → x < 256 → Sound (alu_op op a x f)
alu_sound ADD a x f p q = sum_sound a x 0
alu_sound ADC a x f p q = sum_sound a x (carry f)
alu_sound SUB a x f p q = difference_sound a x 0
alu_sound SBC a x f p q = difference_sound a x (carry f)
alu_sound AND a x f p q = logical_sound (bit_and a x) true (omega (arith, and_le_l a x))
alu_sound XOR a x f p q = logical_sound (bit_xor a x) false (xor_lt 8 a x p q)
alu_sound OR a x f p q = logical_sound (bit_or a x) false (or_lt 8 a x p q)
alu_sound CP a x f p q = (p, (difference_sound a x 0).1)

pub shift_sound : (op : Shift) (x f : ℕ) → x < 256 → Sound (shift_op op x f)
shift_sound RLC x f p = shifted_sound (x * 2 % 256 + x / 128) (x / 128) (omega arith)
shift_sound RRC x f p = shifted_sound (x / 2 + x % 2 * 128) (x % 2) (omega arith)
shift_sound RL x f p = shifted_sound (x * 2 % 256 + carry f) (x / 128) (omega (arith, bit_most (flag_c f)))
shift_sound RR x f p = shifted_sound (x / 2 + carry f * 128) (x % 2) (omega (arith, bit_most (flag_c f)))
shift_sound SLA x f p = shifted_sound (x * 2 % 256) (x / 128) (omega arith)
shift_sound SRA x f p = shifted_sound (x / 2 + x / 128 * 128) (x % 2) (omega arith)
shift_sound SWAP x f p = shifted_sound (x / 16 + x % 16 * 16) 0 (omega arith)
shift_sound SRL x f p = shifted_sound (x / 2) (x % 2) (omega arith)

either_mod : (t : Bool) (x y : ℕ) → (if t then x % 256 else y % 256) < 256
either_mod true x y = omega arith
either_mod false x y = omega arith

daa_sound : (a f : ℕ) → Sound (daa a f)
unfolding daa
daa_sound a f =
    let low : Bool = flag_h f || (not (flag_n f) && leb 0x0a (a % 16)) in
    let high : Bool = flag_c f || (not (flag_n f) && leb 0x9a a) in
    let correction : ℕ = bit low * 0x06 + bit high * 0x60 in
    let v : ℕ = if flag_n f then (256 + a - correction) % 256 else (a + correction) % 256 in
    (either_mod (flag_n f) (256 + a - correction) (a + correction), flags_sound (is_zero v) (flag_n f) false high)

pub acc_sound : (op : Acc) (a f : ℕ) → a < 256 → Sound (acc_op op a f)
acc_sound RLCA a f p = without_z_sound (shift_op RLC a f) (shift_sound RLC a f p)
acc_sound RRCA a f p = without_z_sound (shift_op RRC a f) (shift_sound RRC a f p)
acc_sound RLA a f p = without_z_sound (shift_op RL a f) (shift_sound RL a f p)
acc_sound RRA a f p = without_z_sound (shift_op RR a f) (shift_sound RR a f p)
acc_sound DAA a f p = daa_sound a f
acc_sound CPL a f p = (omega arith, flags_sound (flag_z f) true true (flag_c f))
acc_sound SCF a f p = (p, flags_sound (flag_z f) false false true)
acc_sound CCF a f p = (p, flags_sound (flag_z f) false false (not (flag_c f)))

pub increment_sound : (x f : ℕ) → Sound (increment x f)
increment_sound x f = (omega arith, flags_sound (is_zero ((x + 1) % 256)) false (eqb (x % 16) 15) (flag_c f))

pub decrement_sound : (x f : ℕ) → Sound (decrement x f)
decrement_sound x f = (omega arith, flags_sound (is_zero ((x + 255) % 256)) true (eqb (x % 16) 0) (flag_c f))

pub cleared_byte : (n x : ℕ) → x < 256 → cleared n x < 256
cleared_byte n x p = omega arith

pub raised_byte : (n x : ℕ) → n < 8 → x < 256 → raised n x < 256
raised_byte zero x h p = omega arith
raised_byte (suc zero) x h p = omega arith
raised_byte (suc (suc zero)) x h p = omega arith
raised_byte (suc (suc (suc zero))) x h p = omega arith
raised_byte (suc (suc (suc (suc zero)))) x h p = omega arith
raised_byte (suc (suc (suc (suc (suc zero))))) x h p = omega arith
raised_byte (suc (suc (suc (suc (suc (suc zero)))))) x h p = omega arith
raised_byte (suc (suc (suc (suc (suc (suc (suc zero))))))) x h p = omega arith
raised_byte (suc (suc (suc (suc (suc (suc (suc (suc n)))))))) x h p = absurd (omega arith)
