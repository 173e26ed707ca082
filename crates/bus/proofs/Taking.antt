-- Taking an interrupt: what is left of the bytes where one is pending, and where none is.
use Rattle.std.specs.Prelude.{None, Option, Some}
use Rattle.std.proofs.Common.{◌≡◌, ℕ, ◌-◌, ◌*◌, ◌%◌, ◌^◌, ◌<◌, List, set, sym, ap, ◌∙◌, arith}
use lib.Bits.{bit_and}
use Rattle.sm83.specs.Basics.{cleared}
use Rattle.outcome.specs.declared.interrupt.InterruptType.{InterruptType}
use Rattle.outcome.specs.Interrupts.{interrupt_number}
use Rattle.outcome.proofs.Told.{one_of_five}
use Rattle.opcodes.proofs.SingleBits.{and_clears}
use Rattle.definition.specs.Bus.{byte_at, pending, without, taken}

-- an interrupt's number is that of a bit
pub its_bit : (i : InterruptType) {n : ℕ} → n ≡ interrupt_number i → n < 8
its_bit i is = omega (arith, is, one_of_five i)

-- the mask without that bit clears it alone
pub its_bit_cleared : (i : InterruptType) (x : ℕ) {n : ℕ} → n ≡ interrupt_number i → x < 256 → bit_and x (2 ^ 8 - 1 - 1 * 2 ^ n % 2 ^ 8) ≡ cleared (interrupt_number i) x
its_bit_cleared i x {n} is byte = and_clears n x (its_bit i is) byte ∙ ap (λ (k : ℕ). cleared k x) is

pub one_taken : (m m' : List ℕ) (n : Option InterruptType) (i : InterruptType) → n ≡ pending m → n ≡ Some i → m' ≡ set m 0xff0f (cleared (interrupt_number i) (byte_at m 0xff0f)) → m' ≡ taken m
unfolding taken
one_taken m m' n i e some left = left ∙ ap (λ (x : Option InterruptType). without x m) (sym some ∙ e)

pub none_taken : (m : List ℕ) (n : Option InterruptType) → n ≡ pending m → n ≡ None → m ≡ taken m
unfolding taken
none_taken m n e none = ap (λ (x : Option InterruptType). without x m) (sym none ∙ e)
