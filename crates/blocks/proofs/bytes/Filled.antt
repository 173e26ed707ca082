-- A block with bytes written over its front: its length, its front and what stands behind.
use Rattle.std.proofs.Common.{if◌then◌else◌}
use mathlib.Core.Path.{◌≡◌, refl, sym, ap, ◌∙◌}
use mathlib.Core.Bool.{Bool, true, false}
use mathlib.Core.List.{List, [], ◌∷◌, ◌++◌}
use Prim.Native.Nat.{ℕ, zero, suc, ◌+◌, ◌≤◌}
use native.Mathlib.Omega.{arith}
use native.Mathlib.Nat.{add-zero, add-suc, suc-add}
use lib.Dec.{eqb}
use lib.ListN.{length, drop, length-append, length-drop}
use lib.Seq.{drop-cons}
use borrow.Author.Tests.{eq-eqb, ne_eqb, eqb-true}
use Rattle.definition.specs.Bus.{byte_at}
use Rattle.blocks.specs.Bytes.{filled}

by_test : (t : Bool) (size : ℕ) (bytes block : List ℕ) → eqb (length block) size ≡ t → filled size bytes block ≡ (if t then bytes ++ drop (length bytes) block else block)
by_test t size bytes block e = ap (λ (u : Bool). if u then bytes ++ drop (length bytes) block else block) e

-- a block of the right length, and a block of any other length, which is left alone
pub at_length : (size : ℕ) (bytes block : List ℕ) → length block ≡ size → filled size bytes block ≡ bytes ++ drop (length bytes) block
at_length size bytes block same = by_test true size bytes block (eq-eqb (length block) size same)

pub left_alone : (size : ℕ) (bytes block : List ℕ) → (length block ≡ size → ⊥) → filled size bytes block ≡ block
left_alone size bytes block other = by_test false size bytes block (ne_eqb (length block) size other)

-- no block changes its length
overlaid_length : (bytes block : List ℕ) → length bytes ≤ length block → length (bytes ++ drop (length bytes) block) ≡ length block
overlaid_length bytes block fits = simp (length-append, length-drop) (omega arith)

filled_length_as : (t : Bool) (size : ℕ) (bytes block : List ℕ) → eqb (length block) size ≡ t → length bytes ≤ size → length (if t then bytes ++ drop (length bytes) block else block) ≡ length block
filled_length_as true size bytes block same fits =
    let e : length block ≡ size = eqb-true (length block) size same in overlaid_length bytes block (omega arith)
filled_length_as false size bytes block other fits = refl

pub filled_length : (size : ℕ) (bytes block : List ℕ) → length bytes ≤ size → length (filled size bytes block) ≡ length block
filled_length size bytes block fits = filled_length_as (eqb (length block) size) size bytes block refl fits

-- n bytes of a block, from a place on
abbrev pub bytes_from : List ℕ → ℕ → ℕ → List ℕ
bytes_from block at zero = []
bytes_from block at (suc n) = byte_at block at ∷ bytes_from block (suc at) n

-- what stands from a place on: n bytes, and what stands behind them
pub parted : (block : List ℕ) (at n : ℕ) → at + n ≤ length block → drop at block ≡ bytes_from block at n ++ drop (at + n) block
parted block at zero fits = ap (λ (k : ℕ). drop k block) (sym (add-zero at))
parted block at (suc n) fits =
    let e : at + suc n ≡ suc at + n = add-suc at n ∙ sym (suc-add at n) in
    drop-cons block at 0 (omega arith)
    ∙ ap (λ (r : List ℕ). byte_at block at ∷ r) (parted block (suc at) n (omega arith) ∙ ap (λ (k : ℕ). bytes_from block (suc at) n ++ drop k block) (sym e))
