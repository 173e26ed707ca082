-- The reserved bytes 18 to 23 are not looked at and not changed.
use mathlib.Core.Path.{◌≡◌, sym, ap, ◌∙◌}
use mathlib.Core.List.{List, ◌++◌}
use Prim.Native.Nat.{ℕ, ◌≤◌}
use native.Mathlib.Omega.{arith}
use lib.ListN.{length, take, drop, length-drop}
use Rattle.sm83.specs.declared.Cpu.{Cpu}
use Rattle.blocks.specs.StateBlock.{state_fields, state_bytes, state_of}
use Rattle.blocks.proofs.bytes.Filled.{at_length, bytes_from, parted}

-- not changed
pub reserved_kept : (s : Cpu) (block : List ℕ) → length block ≡ 24 → drop 18 (state_bytes s block) ≡ drop 18 block
reserved_kept s block same = ap (λ (l : List ℕ). drop 18 l) (at_length 24 (state_fields s) block same)

-- not looked at
front_read : (block rest other : List ℕ) → length rest ≡ length other → state_of (bytes_from block 0 18 ++ rest) ≡ state_of (bytes_from block 0 18 ++ other)
front_read block rest other same = simp same

front_is : (block : List ℕ) → 18 ≤ length block → take 18 block ≡ bytes_from block 0 18
front_is block long = ap (λ (l : List ℕ). take 18 l) (parted block 0 18 (omega arith))

pub reserved_unseen : (block other : List ℕ) → length block ≡ 24 → length other ≡ 24 → take 18 block ≡ take 18 other → state_of block ≡ state_of other
reserved_unseen block other same same-other fronts =
    ap state_of (parted block 0 18 (omega arith))
    ∙ front_read block (drop 18 block) (drop 18 other) (simp (length-drop, same, same-other))
    ∙ ap (λ (front : List ℕ). state_of (front ++ drop 18 other)) (sym (front_is block (omega arith)) ∙ fronts ∙ front_is other (omega arith))
    ∙ ap state_of (sym (parted other 0 18 (omega arith)))
