-- The opcode bytes of each class, as lists: forbidden, ending a routine, jumping, returning, calling; and the length of each. One computed test over all 256 bytes for each.
use Rattle.std.proofs.Common.{if◌then◌else◌}
use mathlib.Core.Path.{◌≡◌, refl, subst⁻¹}
use mathlib.Core.Bool.{Bool, true, false, not}
use mathlib.Core.Logic.{◌⊎◌, inl, inr, ◌↔◌}
use mathlib.Core.List.{List, [], ◌∷◌}
use Prim.Native.Nat.{ℕ, zero, suc, ◌<◌}
use native.Mathlib.Nat.{eq-or-lt_of_le}
use native.Mathlib.Omega.{arith}
use lib.Dec.{T, not_T, eqb}
use lib.Ieee.Bits.{is_true}
use mir.Facts.{T_not-not}
use Rattle.sm83.specs.Basics.{next}
use Rattle.definition.specs.Bus.{byte_at}
use Rattle.opcodes.specs.Arithmetic.{holds}
use Rattle.opcodes.specs.Instruction.{c_nz, c_z, c_nc, c_c, decode, length_of}
use Rattle.opcodes.specs.Published.{one_of}
use Rattle.routine.specs.declared.Class.{Class}
use Rattle.routine.specs.Flow.{class_of, class_at, flow_of, flow_at, is_forbidden, ends_routine, jumps_where, returns}
use Rattle.routine.specs.Rules.{JumpsTo}
use Rattle.routine.specs.Trace.{calls}
use Rattle.routine.proofs.Jumps.{target_passes, target_fails}

-- the values below n, and that two functions with the same values are equal there
abbrev values {ℓ} : {A : Type ℓ} → (ℕ → A) → ℕ → List A
values f zero = []
values f (suc n) = f n ∷ values f n

agree : {A : Type 0} (f g : ℕ → A) (n : ℕ) → values f n ≡ values g n → (b : ℕ) → b < n → f b ≡ g b
agree f g zero e b low = absurd (omega arith)
agree {A} f g (suc n) e b low = by (eq-or-lt_of_le (omega arith)) (agree f g n tails b)
  where
    tails : values f n ≡ values g n
    tails = cc

    heads : f n ≡ g n
    heads = cc

    by : (b ≡ n) ⊎ (b < n) → (b < n → f b ≡ g b) → f b ≡ g b
    by (inl same) rest = subst⁻¹ (λ (x : ℕ). f x ≡ g x) same heads
    by (inr low) rest = rest low

-- "Forbidden: the eleven of refusal 3, STOP, HALT, EI, RETI, JP HL, every CALL and RST", a line each for the eleven, the five, CALL and RST
abbrev pub forbidden_bytes : List ℕ
forbidden_bytes =
    0xd3 ∷ 0xdb ∷ 0xdd ∷ 0xe3 ∷ 0xe4 ∷ 0xeb ∷ 0xec ∷ 0xed ∷ 0xf4 ∷ 0xfc ∷ 0xfd
    ∷ 0x10 ∷ 0x76 ∷ 0xfb ∷ 0xd9 ∷ 0xe9
    ∷ 0xcd ∷ 0xc4 ∷ 0xcc ∷ 0xd4 ∷ 0xdc
    ∷ 0xc7 ∷ 0xcf ∷ 0xd7 ∷ 0xdf ∷ 0xe7 ∷ 0xef ∷ 0xf7 ∷ 0xff ∷ []

-- "an unconditional JP, JR or RET"
abbrev pub ending_bytes : List ℕ
ending_bytes = 0xc3 ∷ 0x18 ∷ 0xc9 ∷ []

-- "JP or JR, conditional or not"
abbrev pub jumping_bytes : List ℕ
jumping_bytes = 0xc3 ∷ 0xc2 ∷ 0xca ∷ 0xd2 ∷ 0xda ∷ 0x18 ∷ 0x20 ∷ 0x28 ∷ 0x30 ∷ 0x38 ∷ []

-- a return at the flags f: RET and RETI always, RET NZ, RET Z, RET NC and RET C if the condition holds
abbrev pub returns_byte : ℕ → ℕ → Bool
returns_byte b f =
    if one_of (0xc9 ∷ 0xd9 ∷ []) b then true else
    (if eqb b 0xc0 then holds c_nz f else
    (if eqb b 0xc8 then holds c_z f else
    (if eqb b 0xd0 then holds c_nc f else
    (if eqb b 0xd8 then holds c_c f else false))))

-- CALL; CALL NZ, Z, NC, C where the condition holds
abbrev pub calls_byte : ℕ → ℕ → Bool
calls_byte b f =
    if eqb b 0xcd then true else
    (if eqb b 0xc4 then holds c_nz f else
    (if eqb b 0xcc then holds c_z f else
    (if eqb b 0xd4 then holds c_nc f else
    (if eqb b 0xdc then holds c_c f else false))))

-- LD r16,n16; LD [n16],SP; JP; CALL; LD [n16],A and LD A,[n16]
abbrev pub bytes_of_three : List ℕ
bytes_of_three =
    0x01 ∷ 0x11 ∷ 0x21 ∷ 0x31 ∷ 0x08 ∷ 0xc2 ∷ 0xca ∷ 0xd2 ∷ 0xda ∷ 0xc3 ∷ 0xc4 ∷ 0xcc ∷ 0xd4 ∷ 0xdc ∷ 0xcd ∷ 0xea ∷ 0xfa ∷ []

-- LD r8,n8; JR; arithmetic with n8; LDH; SP and e8; "CB opcodes being two bytes long"
abbrev pub bytes_of_two : List ℕ
bytes_of_two =
    0x06 ∷ 0x0e ∷ 0x16 ∷ 0x1e ∷ 0x26 ∷ 0x2e ∷ 0x36 ∷ 0x3e ∷ 0x18 ∷ 0x20 ∷ 0x28 ∷ 0x30 ∷ 0x38
    ∷ 0xc6 ∷ 0xce ∷ 0xd6 ∷ 0xde ∷ 0xe6 ∷ 0xee ∷ 0xf6 ∷ 0xfe ∷ 0xe0 ∷ 0xf0 ∷ 0xe8 ∷ 0xf8 ∷ 0xcb ∷ []

abbrev pub length_of_byte : ℕ → ℕ
length_of_byte b = if one_of bytes_of_three b then 3 else (if one_of bytes_of_two b then 2 else 1)

-- Of the instruction at an address, whatever bytes follow it. A byte is below 256.
module _ (m : List ℕ) (a : ℕ) (is_byte_lem : byte_at m a < 256) where
  of_class : (test : Class → Bool) (of-byte : ℕ → Bool) → values (λ b. test (class_of (decode b))) 256 ≡ values of-byte 256 → test (class_at m a) ≡ of-byte (byte_at m a)
  of_class test of-byte e = agree (λ b. test (class_of (decode b))) of-byte 256 e (byte_at m a) is_byte_lem

  pub forbidden_bytes_lem : is_forbidden (class_at m a) ≡ one_of forbidden_bytes (byte_at m a)
  unfolding decode
  forbidden_bytes_lem = of_class is_forbidden (λ b. one_of forbidden_bytes b) refl

  pub ending_bytes_lem : ends_routine (class_at m a) ≡ one_of ending_bytes (byte_at m a)
  unfolding decode
  ending_bytes_lem = of_class ends_routine (λ b. one_of ending_bytes b) refl

  pub jumping_bytes_lem : ((t : ℕ) × JumpsTo m a t) ↔ T (one_of jumping_bytes (byte_at m a))
  unfolding decode flow_at
  jumping_bytes_lem = (
    λ (t, jump). T_not-not (one_of jumping_bytes (byte_at m a)) (not_T (not (one_of jumping_bytes (byte_at m a))) (λ h. target_passes (λ x. false) jump (subst⁻¹ T lands_nowhere h))),
    λ h. let (t, jump, none) = target_fails (λ x. false) (flow_at m a) (rw (lands_nowhere, is_true (one_of jumping_bytes (byte_at m a)) h) tt) in (t, jump),
  )
    where
      lands_nowhere : jumps_where (λ x. false) (flow_at m a) ≡ not (one_of jumping_bytes (byte_at m a))
      lands_nowhere = of_class (λ k. jumps_where (λ x. false) (flow_of k a (byte_at m (next a)) (byte_at m (next (next a))))) (λ b. not (one_of jumping_bytes b)) refl

  pub returning_bytes : (f : ℕ) → returns (decode (byte_at m a)) f ≡ returns_byte (byte_at m a) f
  unfolding decode
  returning_bytes f = agree (λ b. returns (decode b) f) (λ b. returns_byte b f) 256 refl (byte_at m a) is_byte_lem

  pub calling_bytes : (f : ℕ) → calls (decode (byte_at m a)) f ≡ calls_byte (byte_at m a) f
  unfolding decode
  calling_bytes f = agree (λ b. calls (decode b) f) (λ b. calls_byte b f) 256 refl (byte_at m a) is_byte_lem

  pub lengths : length_of (decode (byte_at m a)) ≡ length_of_byte (byte_at m a)
  unfolding decode
  lengths = agree (λ b. length_of (decode b)) length_of_byte 256 refl (byte_at m a) is_byte_lem
