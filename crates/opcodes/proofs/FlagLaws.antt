-- The flags column as a law of F before and after, and the proof that the arithmetic keeps to its columns.
use mathlib.Core.Path.{◌≡◌, refl, ap, sym, subst, ◌∙◌}
use mathlib.Core.Bool.{Bool, true, false, not, ◌||◌, ◌&&◌}
use Prim.Native.Nat.{ℕ, ◌+◌, ◌-◌, ◌*◌, ◌/◌, ◌%◌}
use native.Mathlib.Omega.{arith}
use lib.Dec.{eqb, leb, ltb}
use lib.Bits.{bit_and, bit_or, bit_xor}
use Rattle.sm83.specs.Basics.{bit_at}
use Rattle.sm83.specs.Flags.{flag_byte, flag_z, flag_n, flag_h, flag_c}
use Rattle.opcodes.specs.Arithmetic.{carry, is_zero, Result, sum, difference, shifted, without_z, alu_op, acc_op, shift_op, increment, decrement, bit_test, word_sum_flags, offset_flags, daa}
use Rattle.opcodes.specs.Instruction.{Alu, ADD, ADC, SUB, SBC, AND, XOR, OR, CP, Acc, RLCA, RRCA, RLA, RRA, DAA, CPL, SCF, CCF, Shift, RLC, RRC, RL, RR, SLA, SRA, SWAP, SRL}
use Rattle.opcodes.specs.Published.{FlagColumn, keep, ZNHC, Z0HC, Z1HC, Z0H-, Z1H-, Z000, Z010, Z01-, Z00C, Z-0C, -0HC, -11-, -001, -00C, 00HC, 000C, Effect, kept, is_0, is_1, computed, effects}
use Rattle.opcodes.proofs.Flags.{read_z, read_n, read_h, read_c, low_bits_0}
use Rattle.opcodes.proofs.FlagColumns.{alu_flags, acc_flags, shift_flags}

-- The flags f become g as the column says: each of the four, and "the low four bits of F are always 0".

abbrev pub Follows : Effect → Bool → Bool → Type 0
Follows kept old new = new ≡ old
Follows is_0 old new = new ≡ false
Follows is_1 old new = new ≡ true
Follows computed old new = Unit {0}

pub record Obeys (column : FlagColumn) (f g : ℕ) : Type 0 where
  pub of_z : Follows (effects column).on_z (flag_z f) (flag_z g)
  pub of_n : Follows (effects column).on_n (flag_n f) (flag_n g)
  pub of_h : Follows (effects column).on_h (flag_h f) (flag_h g)
  pub of_c : Follows (effects column).on_c (flag_c f) (flag_c g)
  pub low_bits : f % 16 ≡ 0 → g % 16 ≡ 0

-- What each of four flags does, the byte made of them does.
obeys : (z n h c : Bool) (column : FlagColumn) (f : ℕ) → Follows (effects column).on_z (flag_z f) z → Follows (effects column).on_n (flag_n f) n → Follows (effects column).on_h (flag_h f) h → Follows (effects column).on_c (flag_c f) c → Obeys column f (flag_byte z n h c)
obeys z n h c column f on-z on-n on-h on-c =
    record {
      of_z = subst (Follows (effects column).on_z (flag_z f)) (sym (read_z z n h c)) on-z;
      of_n = subst (Follows (effects column).on_n (flag_n f)) (sym (read_n z n h c)) on-n;
      of_h = subst (Follows (effects column).on_h (flag_h f)) (sym (read_h z n h c)) on-h;
      of_c = subst (Follows (effects column).on_c (flag_c f)) (sym (read_c z n h c)) on-c;
      low_bits = λ e. low_bits_0 z n h c;
    }

-- The arithmetic keeps to the columns.

pub same_obeys : (f g : ℕ) → g ≡ f → Obeys keep f g
same_obeys f g e = record { of_z = ap flag_z e; of_n = ap flag_n e; of_h = ap flag_h e; of_c = ap flag_c e; low_bits = λ z. ap (λ (x : ℕ). x % 16) e ∙ z }

-- the flags that were worked out are those in F
pub become : {column : FlagColumn} {f g h : ℕ} → h ≡ g → Obeys column f g → Obeys column f h
become {column} {f} e o = subst (Obeys column f) (sym e) o

sum_obeys : (a x i f : ℕ) → Obeys Z0HC f (sum a x i).flags
sum_obeys a x i f = obeys (is_zero ((a + x + i) % 256)) false (leb 16 (a % 16 + x % 16 + i)) (leb 256 (a + x + i)) Z0HC f tt refl tt tt

difference_obeys : (a x i f : ℕ) → Obeys Z1HC f (difference a x i).flags
difference_obeys a x i f = obeys (is_zero ((256 + a - (x + i)) % 256)) true (ltb (a % 16) (x % 16 + i)) (ltb a (x + i)) Z1HC f tt refl tt tt

shifted_obeys : (v out f : ℕ) → Obeys Z00C f (shifted v out).flags
shifted_obeys v out f = obeys (is_zero v) false false (eqb out 1) Z00C f tt refl refl tt

without_z_obeys : (r : Result) (f : ℕ) → Obeys 000C f (without_z r).flags
without_z_obeys r f = obeys false false false (flag_c r.flags) 000C f refl refl refl tt

pub alu_obeys : (op : Alu) (a x f : ℕ) → Obeys (alu_flags op) f (alu_op op a x f).flags
alu_obeys ADD a x f = sum_obeys a x 0 f
alu_obeys ADC a x f = sum_obeys a x (carry f) f
alu_obeys SUB a x f = difference_obeys a x 0 f
alu_obeys SBC a x f = difference_obeys a x (carry f) f
alu_obeys AND a x f = obeys (is_zero (bit_and a x)) false true false Z010 f tt refl refl refl
alu_obeys XOR a x f = obeys (is_zero (bit_xor a x)) false false false Z000 f tt refl refl refl
alu_obeys OR a x f = obeys (is_zero (bit_or a x)) false false false Z000 f tt refl refl refl
alu_obeys CP a x f = difference_obeys a x 0 f

pub acc_obeys : (op : Acc) (a f : ℕ) → Obeys (acc_flags op) f (acc_op op a f).flags
unfolding daa
acc_obeys RLCA a f = without_z_obeys (shift_op RLC a f) f
acc_obeys RRCA a f = without_z_obeys (shift_op RRC a f) f
acc_obeys RLA a f = without_z_obeys (shift_op RL a f) f
acc_obeys RRA a f = without_z_obeys (shift_op RR a f) f
acc_obeys DAA a f = obeys (is_zero (daa a f).value) (flag_n f) false (flag_c f || (not (flag_n f) && leb 0x9a a)) Z-0C f tt refl refl tt
acc_obeys CPL a f = obeys (flag_z f) true true (flag_c f) -11- f refl refl refl refl
acc_obeys SCF a f = obeys (flag_z f) false false true -001 f refl refl refl refl
acc_obeys CCF a f = obeys (flag_z f) false false (not (flag_c f)) -00C f refl refl refl tt

pub shift_obeys : (op : Shift) (x f : ℕ) → Obeys (shift_flags op) f (shift_op op x f).flags
shift_obeys RLC x f = shifted_obeys (shift_op RLC x f).value (x / 128) f
shift_obeys RRC x f = shifted_obeys (shift_op RRC x f).value (x % 2) f
shift_obeys RL x f = shifted_obeys (shift_op RL x f).value (x / 128) f
shift_obeys RR x f = shifted_obeys (shift_op RR x f).value (x % 2) f
shift_obeys SLA x f = shifted_obeys (shift_op SLA x f).value (x / 128) f
shift_obeys SRA x f = shifted_obeys (shift_op SRA x f).value (x % 2) f
shift_obeys SWAP x f = obeys (is_zero (shift_op SWAP x f).value) false false false Z000 f tt refl refl refl
shift_obeys SRL x f = shifted_obeys (shift_op SRL x f).value (x % 2) f

pub increment_obeys : (x f : ℕ) → Obeys Z0H- f (increment x f).flags
increment_obeys x f = obeys (is_zero ((x + 1) % 256)) false (eqb (x % 16) 15) (flag_c f) Z0H- f tt refl tt refl

pub decrement_obeys : (x f : ℕ) → Obeys Z1H- f (decrement x f).flags
decrement_obeys x f = obeys (is_zero ((x + 255) % 256)) true (eqb (x % 16) 0) (flag_c f) Z1H- f tt refl tt refl

pub bit_obeys : (n x f : ℕ) → Obeys Z01- f (bit_test n x f)
bit_obeys n x f = obeys (is_zero (bit_at n x)) false true (flag_c f) Z01- f tt refl refl refl

pub word_sum_obeys : (x y f : ℕ) → Obeys -0HC f (word_sum_flags x y f)
word_sum_obeys x y f = obeys (flag_z f) false (leb 4096 (x % 4096 + y % 4096)) (leb 65536 (x + y)) -0HC f refl refl tt tt

pub offset_obeys : (w e f : ℕ) → Obeys 00HC f (offset_flags w e)
offset_obeys w e f = obeys false false (leb 16 (w % 16 + e % 16)) (leb 256 (w % 256 + e)) 00HC f refl refl tt tt

-- POP AF
pub popped_obeys : (f x : ℕ) → Obeys ZNHC f (x / 16 * 16)
popped_obeys f x = record { of_z = tt; of_n = tt; of_h = tt; of_c = tt; low_bits = λ e. omega arith }
