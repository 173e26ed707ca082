-- Arithmetic on bytes and words, with its flags, from the reference's columns of flags.
use Rattle.std.specs.Prelude.{Bool, true, false, not, ◌||◌, ◌&&◌, ℕ, ◌+◌, ◌-◌, ◌*◌, ◌/◌, ◌%◌, eqb, leb, ltb, if◌then◌else◌}
use Rattle.std.specs.Int.Bits.{bit_and, bit_or, bit_xor}
use Rattle.sm83.specs.Basics.{bit, bit_at}
use Rattle.sm83.specs.Flags.{flag_byte, flag_z, flag_n, flag_h, flag_c}
use Rattle.opcodes.specs.Instruction.{Cond, c_nz, c_z, c_nc, c_c, Alu, ADD, ADC, SUB, SBC, AND, XOR, OR, CP, Acc, RLCA, RRCA, RLA, RRA, DAA, CPL, SCF, CCF, Shift, RLC, RRC, RL, RR, SLA, SRA, SWAP, SRL}

-- the carry that ADC, SBC, RL, RR, RLA and RRA take in
abbrev pub carry : ℕ → ℕ
carry f = bit (flag_c f)

-- cc of the reference
abbrev pub holds : Cond → ℕ → Bool
holds c_nz f = not (flag_z f)
holds c_z f = flag_z f
holds c_nc f = not (flag_c f)
holds c_c f = flag_c f

-- a byte and the flags that it comes with
pub record Result : Type 0 where
  pub value : ℕ
  pub flags : ℕ

-- "Set if result is 0"
abbrev pub is_zero : ℕ → Bool
is_zero v = eqb v 0

-- a + x + i: H is the carry out of bit 3, C out of bit 7
abbrev pub sum : ℕ → ℕ → ℕ → Result
sum a x i =
    let v = (a + x + i) % 256 in
    record { value = v; flags = flag_byte (is_zero v) false (leb 16 (a % 16 + x % 16 + i)) (leb 256 (a + x + i)) }

-- a - x - i: H is the borrow into bit 4, C into bit 8
abbrev pub difference : ℕ → ℕ → ℕ → Result
difference a x i =
    let v = (256 + a - (x + i)) % 256 in
    record { value = v; flags = flag_byte (is_zero v) true (ltb (a % 16) (x % 16 + i)) (ltb a (x + i)) }

-- AND sets H, XOR and OR clear it; N and C are cleared
abbrev pub logical : ℕ → Bool → Result
logical v h = record { value = v; flags = flag_byte (is_zero v) false h false }

-- the reference's 8-bit arithmetic and bitwise logic on A; CP is SUB that keeps A
abbrev pub alu_op : Alu → ℕ → ℕ → ℕ → Result
alu_op ADD a x f = sum a x 0
alu_op ADC a x f = sum a x (carry f)
alu_op SUB a x f = difference a x 0
alu_op SBC a x f = difference a x (carry f)
alu_op AND a x f = logical (bit_and a x) true
alu_op XOR a x f = logical (bit_xor a x) false
alu_op OR a x f = logical (bit_or a x) false
alu_op CP a x f = record { value = a; flags = (difference a x 0).flags }

-- INC r8 and DEC r8: the flags of a sum and of a difference, but C is kept
abbrev pub increment : ℕ → ℕ → Result
increment x f = let v = (x + 1) % 256 in record { value = v; flags = flag_byte (is_zero v) false (eqb (x % 16) 15) (flag_c f) }

abbrev pub decrement : ℕ → ℕ → Result
decrement x f = let v = (x + 255) % 256 in record { value = v; flags = flag_byte (is_zero v) true (eqb (x % 16) 0) (flag_c f) }

-- what a rotation or shift makes, and the bit that left
abbrev pub shifted : ℕ → ℕ → Result
shifted v out = record { value = v; flags = flag_byte (is_zero v) false false (eqb out 1) }

-- the reference's bit shift instructions
abbrev pub shift_op : Shift → ℕ → ℕ → Result
shift_op RLC x f = shifted (x * 2 % 256 + x / 128) (x / 128)
shift_op RRC x f = shifted (x / 2 + x % 2 * 128) (x % 2)
shift_op RL x f = shifted (x * 2 % 256 + carry f) (x / 128)
shift_op RR x f = shifted (x / 2 + carry f * 128) (x % 2)
shift_op SLA x f = shifted (x * 2 % 256) (x / 128)
shift_op SRA x f = shifted (x / 2 + x / 128 * 128) (x % 2)
shift_op SWAP x f = shifted (x / 16 + x % 16 * 16) 0
shift_op SRL x f = shifted (x / 2) (x % 2)

-- RLCA, RRCA, RLA, RRA: as after CB, but Z is cleared
abbrev pub without_z : Result → Result
without_z r = record { value = r.value; flags = flag_byte false false false (flag_c r.flags) }

-- DAA: 6 for the low digit and 60 for the high one, added, or taken away after a subtraction
unfoldable pub daa : ℕ → ℕ → Result
daa a f =
    let low : Bool = flag_h f || (not (flag_n f) && leb 0x0a (a % 16)) in
    let high : Bool = flag_c f || (not (flag_n f) && leb 0x9a a) in
    let correction : ℕ = bit low * 0x06 + bit high * 0x60 in
    let v : ℕ = if flag_n f then (256 + a - correction) % 256 else (a + correction) % 256 in
    record { value = v; flags = flag_byte (is_zero v) (flag_n f) false high }

-- the instructions on A and F alone
abbrev pub acc_op : Acc → ℕ → ℕ → Result
acc_op RLCA a f = without_z (shift_op RLC a f)
acc_op RRCA a f = without_z (shift_op RRC a f)
acc_op RLA a f = without_z (shift_op RL a f)
acc_op RRA a f = without_z (shift_op RR a f)
acc_op DAA a f = daa a f
acc_op CPL a f = record { value = 255 - a; flags = flag_byte (flag_z f) true true (flag_c f) }
acc_op SCF a f = record { value = a; flags = flag_byte (flag_z f) false false true }
acc_op CCF a f = record { value = a; flags = flag_byte (flag_z f) false false (not (flag_c f)) }

-- BIT n: Z is the bit's complement, C is kept
abbrev pub bit_test : ℕ → ℕ → ℕ → ℕ
bit_test n x f = flag_byte (is_zero (bit_at n x)) false true (flag_c f)

-- ADD HL,r16: H is the carry out of bit 11, C out of bit 15, Z is kept
abbrev pub word_sum_flags : ℕ → ℕ → ℕ → ℕ
word_sum_flags x y f = flag_byte (flag_z f) false (leb 4096 (x % 4096 + y % 4096)) (leb 65536 (x + y))

-- "ADD SP and LD HL,SP add a signed byte: H and C come from the unsigned low nibble and low byte, Z and N are cleared"
abbrev pub offset_flags : ℕ → ℕ → ℕ
offset_flags w e = flag_byte false false (leb 16 (w % 16 + e % 16)) (leb 256 (w % 256 + e))
