-- Which interrupt is pending, and what taking it leaves: "the lowest set bit wins", "Taking it clears that bit alone at 0xFF0F".
use Rattle.std.specs.Prelude.{None, Option, Some}
use Rattle.std.proofs.Common.{if◌then◌else◌}
use mathlib.Core.Path.{◌≡◌, refl, ap, sym, ◌∙◌}
use mathlib.Core.Logic.{◌≢◌}
use mathlib.Core.Bool.{Bool, true, false}
use mathlib.Core.List.{List}
use Prim.Native.Nat.{ℕ, suc, ◌<◌, min}
use native.Mathlib.Omega.{arith}
use native.Mathlib.Nat.{min-eq_left, min-le_left, le_trans}
use lib.Dec.{eqb}
use lib.Bits.{bit_and}
use lib.ListN.{length}
use lib.Seq.{get_or-set_same, get_or-set_other}
use borrow.Author.Tests.{eqb-true, eqb-false}
use Rattle.sm83.specs.Basics.{bit_at, cleared}
use Rattle.outcome.specs.declared.interrupt.InterruptType.{InterruptType}
use Rattle.outcome.specs.declared.interrupt.InterruptType.TheVariants.{Vblank, LcdStat, Timer, Serial, Joypad}
use Rattle.outcome.specs.Interrupts.{interrupt_number}
use Rattle.outcome.proofs.Told.{one_of_five}
use Rattle.opcodes.proofs.OneBit.{cleared_itself, cleared_others, bit_and_lem}
use Rattle.definition.specs.Bus.{lowest, byte_at, pending, without, taken}

-- the lowest interrupt where f is 1, or none where it is 0 at every one
pub data Least (f : InterruptType → ℕ) : Option InterruptType → Type 0 where
  found : (i : InterruptType) → f i ≡ 1 → ((j : InterruptType) → interrupt_number j < interrupt_number i → f j ≡ 0) → Least f (Some i)
  not_found : ((j : InterruptType) → f j ≡ 0) → Least f None

least_same : {f g : InterruptType → ℕ} {n : Option InterruptType} → ((j : InterruptType) → f j ≡ g j) → Least f n → Least g n
least_same e (found i q h) = found i (sym (e i) ∙ q) (λ j l. sym (e j) ∙ h j l)
least_same e (not_found h) = not_found (λ j. sym (e j) ∙ h j)

module _ (f : ℕ → ℕ) (bits : (j : ℕ) → f j < 2) where
  ClearBelow : ℕ → Type 0
  ClearBelow n = (j : ℕ) → j < n → f j ≡ 0

  one_more_clear : (n j : ℕ) (t : Bool) → eqb j n ≡ t → ClearBelow n → f n ≡ 0 → j < suc n → f j ≡ 0
  unfolding ClearBelow
  one_more_clear n j true e h c p = ap f (eqb-true j n e) ∙ c
  one_more_clear n j false e h c p = let apart : j ≡ n → ⊥ = eqb-false j n e in h j (omega arith)

  is_clear : (n : ℕ) → eqb (f n) 1 ≡ false → f n ≡ 0
  is_clear n e = let apart : f n ≡ 1 → ⊥ = eqb-false (f n) 1 e in omega (arith, bits n)

  abbrev At : InterruptType → ℕ
  At i = f (interrupt_number i)

  test : (i : InterruptType) (y : Option InterruptType) (t : Bool) → eqb (At i) 1 ≡ t → ClearBelow (interrupt_number i) → (ClearBelow (suc (interrupt_number i)) → Least At y) → Least At (if t then Some i else y)
  unfolding ClearBelow
  test i y true e h rest = found i (eqb-true (At i) 1 e) (λ j q. h (interrupt_number j) q)
  test i y false e h rest = rest (λ j q. one_more_clear (interrupt_number i) j (eqb j (interrupt_number i)) refl h (is_clear (interrupt_number i) e) q)

  tests : Least At (if eqb (f 0) 1 then Some Vblank else (if eqb (f 1) 1 then Some LcdStat else (if eqb (f 2) 1 then Some Timer else (if eqb (f 3) 1 then Some Serial else (if eqb (f 4) 1 then Some Joypad else None)))))
  unfolding ClearBelow
  tests =
      test Vblank _ (eqb (f 0) 1) refl (λ j q. absurd (omega arith))
      (λ h0. test LcdStat _ (eqb (f 1) 1) refl h0
      (λ h1. test Timer _ (eqb (f 2) 1) refl h1
      (λ h2. test Serial _ (eqb (f 3) 1) refl h2
      (λ h3. test Joypad None (eqb (f 4) 1) refl h3 (λ h. not_found (λ j. h (interrupt_number j) (one_of_five j)))))))

-- "the lowest set bit wins"
pub lowest_is : (x : ℕ) → Least (λ i. bit_at (interrupt_number i) x) (lowest x)
lowest_is x = tests (λ j. bit_at j x) (λ j. omega arith)

-- its bit at 0xFF0F AND its bit at 0xFFFF
abbrev pub awaits : List ℕ → InterruptType → ℕ
awaits m i = min (bit_at (interrupt_number i) (byte_at m 0xff0f)) (bit_at (interrupt_number i) (byte_at m 0xffff))

low_five : (i : InterruptType) → bit_at (interrupt_number i) 0x1f ≡ 1
low_five Vblank = refl
low_five LcdStat = refl
low_five Timer = refl
low_five Serial = refl
low_five Joypad = refl

three_bytes : (m : List ℕ) (i : InterruptType) → bit_at (interrupt_number i) (bit_and (bit_and (byte_at m 0xff0f) (byte_at m 0xffff)) 0x1f) ≡ awaits m i
three_bytes m i =
    let j : ℕ = interrupt_number i in
    bit_and_lem j (bit_and (byte_at m 0xff0f) (byte_at m 0xffff)) 0x1f
    ∙ ap (λ (u : ℕ). min u (bit_at j 0x1f)) (bit_and_lem j (byte_at m 0xff0f) (byte_at m 0xffff))
    ∙ ap (λ (u : ℕ). min (awaits m i) u) (low_five i)
    ∙ min-eq_left (le_trans (min-le_left (bit_at j (byte_at m 0xff0f)) (bit_at j (byte_at m 0xffff))) (omega arith))

-- "Peeking sees byte 0xFF0F AND byte 0xFFFF AND 0x1F; the lowest set bit wins": the lowest whose bit is set in both bytes, or none
pub pending_is : (m : List ℕ) → Least (awaits m) (pending m)
unfolding pending
pending_is m = least_same (three_bytes m) (lowest_is (bit_and (bit_and (byte_at m 0xff0f) (byte_at m 0xffff)) 0x1f))

-- "Taking it clears that bit alone at 0xFF0F": every other address is as it was
other_kept : (m : List ℕ) (n : Option InterruptType) (a : ℕ) → a ≢ 0xff0f → byte_at (without n m) a ≡ byte_at m a
other_kept m None a h = refl
other_kept m (Some i) a h = get_or-set_other m 0xff0f a (cleared (interrupt_number i) (byte_at m 0xff0f)) 0 h

pub taken_elsewhere : (m : List ℕ) (a : ℕ) → a ≢ 0xff0f → byte_at (taken m) a ≡ byte_at m a
unfolding taken
taken_elsewhere m a h = other_kept m (pending m) a h

module _ (m : List ℕ) (whole : length m ≡ 65536) (i : InterruptType) (some : pending m ≡ Some i) where
  pub taken_there : byte_at (taken m) 0xff0f ≡ cleared (interrupt_number i) (byte_at m 0xff0f)
  unfolding taken
  taken_there =
      ap (λ (n : Option InterruptType). byte_at (without n m) 0xff0f) some
      ∙ get_or-set_same m 0xff0f (cleared (interrupt_number i) (byte_at m 0xff0f)) 0 (omega arith)

  -- that bit is cleared
  pub taken_bit : bit_at (interrupt_number i) (byte_at (taken m) 0xff0f) ≡ 0
  taken_bit = ap (bit_at (interrupt_number i)) taken_there ∙ cleared_itself (interrupt_number i) (byte_at m 0xff0f)

  -- and every other bit there is as it was
  pub taken_others : (j : ℕ) → j ≢ interrupt_number i → bit_at j (byte_at (taken m) 0xff0f) ≡ bit_at j (byte_at m 0xff0f)
  taken_others j h = ap (bit_at j) taken_there ∙ cleared_others (interrupt_number i) j (byte_at m 0xff0f) h

-- if none is left, nothing is taken
pub none_taken : (m : List ℕ) → pending m ≡ None → taken m ≡ m
unfolding taken
none_taken m e = ap (λ (n : Option InterruptType). without n m) e
