-- A block is malformed exactly when its length is not 24, one of the five flags is not 0 or 1, or the halt mode is above 3.
use Rattle.std.proofs.Common.{if◌then◌else◌}
use mathlib.Core.Path.{◌≡◌, refl}
use mathlib.Core.Bool.{Bool, true, false}
use mathlib.Core.List.{List}
use Prim.Native.Nat.{ℕ, ◌≤◌}
use native.Mathlib.Omega.{arith}
use lib.ListN.{length}
use Rattle.std.proofs.lemmas.Bool.{and_parts}
use borrow.Author.Tests.{eq-eqb, le-leb, eqb-true, leb-true}
use Rattle.sm83.specs.declared.Cpu.{Cpu}
use Rattle.definition.specs.Bus.{byte_at}
use Rattle.std.specs.Prelude.{Some, None}
use Rattle.blocks.specs.StateBlock.{well_formed, state_in, state_of}

pub record WellFormed (block : List ℕ) : Type 0 where
  pub its_length : length block ≡ 24
  pub ime : byte_at block 12 ≤ 1
  pub latch : byte_at block 13 ≤ 1
  pub halt : byte_at block 14 ≤ 3
  pub stopped : byte_at block 15 ≤ 1
  pub hdma : byte_at block 16 ≤ 1
  pub dmg : byte_at block 17 ≤ 1

tested : (block : List ℕ) → WellFormed block → well_formed block ≡ true
tested block w =
    simp (
      eq-eqb (length block) 24 w.its_length,
      le-leb (byte_at block 12) 1 w.ime,
      le-leb (byte_at block 13) 1 w.latch,
      le-leb (byte_at block 14) 3 w.halt,
      le-leb (byte_at block 15) 1 w.stopped,
      le-leb (byte_at block 16) 1 w.hdma,
      le-leb (byte_at block 17) 1 w.dmg,
    )

told : (block : List ℕ) → well_formed block ≡ true → WellFormed block
told block e =
    let flags = and_parts _ _ e in
    let after-ime = and_parts _ _ flags.1 in
    let after-latch = and_parts _ _ after-ime.1 in
    let after-halt = and_parts _ _ after-latch.1 in
    let after-stopped = and_parts _ _ after-halt.1 in
    let last-two = and_parts _ _ after-stopped.1 in
    record {
      its_length = eqb-true (length block) 24 flags.0;
      ime = leb-true (byte_at block 12) 1 after-ime.0;
      latch = leb-true (byte_at block 13) 1 after-latch.0;
      halt = leb-true (byte_at block 14) 3 after-halt.0;
      stopped = leb-true (byte_at block 15) 1 after-stopped.0;
      hdma = leb-true (byte_at block 16) 1 last-two.0;
      dmg = leb-true (byte_at block 17) 1 last-two.1;
    }

read_means : (t : Bool) (found s : Cpu) → (if t then Some found else None) ≡ Some s → (t ≡ true) × (found ≡ s)
read_means true found s e = (refl, cc)
read_means false found s e = (cc, cc)

-- a well-formed block reads as the state at its offsets, and a block that reads as a state is well-formed
pub read_if : (block : List ℕ) → WellFormed block → state_of block ≡ Some (state_in block)
read_if block w = simp (tested block w)

pub read_only_if : (block : List ℕ) (s : Cpu) → state_of block ≡ Some s → WellFormed block × (state_in block ≡ s)
read_only_if block s e = let means = read_means (well_formed block) (state_in block) s e in (told block means.0, means.1)

-- malformed exactly when it is not well-formed
pub malformed_only_if : (block : List ℕ) → state_of block ≡ None → WellFormed block → ⊥
malformed_only_if block e w = let never : ◌≡◌ {A = ℕ} 0 1 = cc (read_if block w) in omega arith

otherwise : (t : Bool) (found : Cpu) → (t ≡ true → ⊥) → (if t then Some found else None) ≡ None
otherwise true found not_so = absurd (not_so refl)
otherwise false found not_so = refl

pub malformed_if : (block : List ℕ) → (WellFormed block → ⊥) → state_of block ≡ None
malformed_if block not_so = otherwise (well_formed block) (state_in block) (λ e. not_so (told block e))
