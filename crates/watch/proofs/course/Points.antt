-- Whether an interrupt is pending, and the registers after the fetch.
use Rattle.std.proofs.Common.{if◌then◌else◌}
use mathlib.Core.Path.{◌≡◌, refl, sym, ap, ap₂, ◌∙◌}
use mathlib.Core.Bool.{Bool, true, false, not, ◌&&◌, ◌||◌}
use mathlib.Core.List.{List}
use Prim.Native.Nat.{ℕ, ◌%◌, ◌<◌}
use native.Mathlib.Omega.{arith}
use lib.Bits.{bit_and, and_le_r}
use lib.Dec.{eqb, ltb}
use lib.ListN.{length}
use Rattle.sm83.specs.declared.Cpu.{Cpu}
use Rattle.sm83.specs.Basics.{next}
use Rattle.sm83.specs.State.{pc, flags, write_pc}
use Rattle.outcome.specs.Interrupts.{is_pending}
use Rattle.definition.specs.Bus.{lowest, byte_at, pending}
use Rattle.definition.specs.Step.{is_asleep, is_bug, fetched}
use Rattle.opcodes.proofs.Choices.{if_so, if_not}
use Rattle.opcodes.proofs.Tested.{agree}
use Rattle.watch.specs.declared.course.Course.TheVariants.{Rests, Dispatches, Executes}
use Rattle.watch.specs.Written.{course_of}

-- a number of five bits has one that is set exactly where it is not 0: a computed test
five_bits : (x : ℕ) → x < 32 → ltb 0 x ≡ is_pending (lowest x)
five_bits x = agree (ltb 0) (λ x. is_pending (lowest x)) 32 refl x

pub some_bit : (m : List ℕ) (x y : ℕ) → x ≡ byte_at m 0xff0f → y ≡ byte_at m 0xffff → ltb 0 (bit_and (bit_and x y) 31) ≡ is_pending (pending m)
unfolding pending
some_bit m x y e f =
    five_bits (bit_and (bit_and x y) 31) (omega (arith, and_le_r (bit_and x y) 31))
    ∙ ap₂ (λ (u v : ℕ). is_pending (lowest (bit_and (bit_and u v) 31))) e f

-- the registers after the fetch, where HaltBug keeps PC
pub kept_there : (s : Cpu) (bug : Bool) → bug ≡ is_bug s.halt → bug ≡ true → s.registers ≡ (fetched s).registers
unfolding fetched
kept_there s bug e t = sym (ap (λ (t : Cpu). t.registers) (if_so _ _ (sym e ∙ t)))

-- and where it does not
pub moved_on : (s : Cpu) (bug : Bool) (p : ℕ) → bug ≡ is_bug s.halt → bug ≡ false → p ≡ next (pc s) → write_pc p s.registers ≡ (fetched s).registers
unfolding fetched
moved_on s bug p e f h = ap (λ (a : ℕ). write_pc a s.registers) h ∙ sym (ap (λ (t : Cpu). t.registers) (if_not _ _ (sym e ∙ f)))
