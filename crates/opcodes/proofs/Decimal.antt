-- DAA after an addition or a subtraction of packed decimal numbers, for every pair of them and both carries: 40,000 cases, each computed.
use mathlib.Core.Path.{◌≡◌}
use mathlib.Core.Bool.{Bool, true, false, ◌&&◌}
use Prim.Native.Nat.{ℕ, ◌+◌, ◌-◌, ◌*◌, ◌/◌, ◌%◌, ◌<◌}
use native.Mathlib.Omega.{arith}
use lib.Dec.{eqb, ltb, eqb→eq, T}
use Rattle.sm83.specs.Basics.{bit}
use Rattle.opcodes.specs.Instruction.{ADD, ADC, SUB, SBC, DAA}
use Rattle.sm83.specs.Flags.{flag_c}
use Rattle.opcodes.specs.Arithmetic.{Result, sum, difference, daa, carry, alu_op, acc_op}
use Rattle.opcodes.proofs.Tested.{and_left, and_right, below, at}

-- packed decimal: a digit in each half of the byte
abbrev pub packed : ℕ → ℕ
packed n = n / 10 * 16 + n % 10

-- DAA on what an operation left
abbrev pub adjusted : Result → Result
adjusted r = acc_op DAA r.value r.flags

-- the byte is n modulo 100 in packed decimal, and C is k
abbrev pub IsDecimal : Result → ℕ → ℕ → Type 0
IsDecimal r n k = (r.value ≡ packed (n % 100)) × (bit (flag_c r.flags) ≡ k)

abbrev is_decimal : Result → ℕ → ℕ → Bool
is_decimal r n k = eqb r.value (packed (n % 100)) && eqb (bit (flag_c r.flags)) k

shown : (r : Result) (n k : ℕ) → T (is_decimal r n k) → IsDecimal r n k
shown r n k t = (eqb→eq r.value (packed (n % 100)) (and_left (eqb r.value (packed (n % 100))) _ t), eqb→eq (bit (flag_c r.flags)) k (and_right (eqb r.value (packed (n % 100))) _ t))

abbrev sum_shows : ℕ → ℕ → ℕ → Bool
sum_shows i x y = is_decimal (adjusted (sum (packed x) (packed y) i)) (x + y + i) ((x + y + i) / 100)

abbrev difference_shows : ℕ → ℕ → ℕ → Bool
difference_shows i x y = is_decimal (adjusted (difference (packed x) (packed y) i)) (100 + x - (y + i)) (bit (ltb x (y + i)))

abbrev everywhere : (ℕ → ℕ → ℕ → Bool) → Bool
everywhere test = below (λ i. below (λ x. below (test i x) 100) 100) 2

sums_tested : T (everywhere sum_shows)
unfolding daa
sums_tested = tt

differences_tested : T (everywhere difference_shows)
unfolding daa
differences_tested = tt

anywhere : (test : ℕ → ℕ → ℕ → Bool) → T (everywhere test) → (i x y : ℕ) → i < 2 → x < 100 → y < 100 → T (test i x y)
anywhere test t i x y hi hx hy = at (test i x) 100 (at (λ x. below (test i x) 100) 100 (at (λ i. below (λ x. below (test i x) 100) 100) 2 t i hi) x hx) y hy

sum_adjusted : (i x y : ℕ) → i < 2 → x < 100 → y < 100 → IsDecimal (adjusted (sum (packed x) (packed y) i)) (x + y + i) ((x + y + i) / 100)
sum_adjusted i x y hi hx hy = shown (adjusted (sum (packed x) (packed y) i)) (x + y + i) ((x + y + i) / 100) (anywhere sum_shows sums_tested i x y hi hx hy)

difference_adjusted : (i x y : ℕ) → i < 2 → x < 100 → y < 100 → IsDecimal (adjusted (difference (packed x) (packed y) i)) (100 + x - (y + i)) (bit (ltb x (y + i)))
difference_adjusted i x y hi hx hy = shown (adjusted (difference (packed x) (packed y) i)) (100 + x - (y + i)) (bit (ltb x (y + i))) (anywhere difference_shows differences_tested i x y hi hx hy)

carry_is_bit : (f : ℕ) → carry f < 2
carry_is_bit f = of (flag_c f)
  where
    of : (c : Bool) → bit c < 2
    of true = omega arith
    of false = omega arith

-- "DAA straight after ADD or ADC on packed decimal gives the sum modulo 100, with C as the hundreds digit", whatever F held
pub decimal_add : (x y f : ℕ) → x < 100 → y < 100 → IsDecimal (adjusted (alu_op ADD (packed x) (packed y) f)) (x + y + 0) ((x + y + 0) / 100)
decimal_add x y f hx hy = sum_adjusted 0 x y (omega arith) hx hy

pub decimal_adc : (x y f : ℕ) → x < 100 → y < 100 → IsDecimal (adjusted (alu_op ADC (packed x) (packed y) f)) (x + y + carry f) ((x + y + carry f) / 100)
decimal_adc x y f hx hy = sum_adjusted (carry f) x y (carry_is_bit f) hx hy

-- "After SUB or SBC on packed decimal, DAA gives the difference modulo 100, with C as the borrow."
pub decimal_sub : (x y f : ℕ) → x < 100 → y < 100 → IsDecimal (adjusted (alu_op SUB (packed x) (packed y) f)) (100 + x - (y + 0)) (bit (ltb x (y + 0)))
decimal_sub x y f hx hy = difference_adjusted 0 x y (omega arith) hx hy

pub decimal_sbc : (x y f : ℕ) → x < 100 → y < 100 → IsDecimal (adjusted (alu_op SBC (packed x) (packed y) f)) (100 + x - (y + carry f)) (bit (ltb x (y + carry f)))
decimal_sbc x y f hx hy = difference_adjusted (carry f) x y (carry_is_bit f) hx hy
