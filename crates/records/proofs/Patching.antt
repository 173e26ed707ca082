-- One triple of a patch after the other.
use Rattle.std.proofs.Common.{◌≡◌, ℕ, zero, suc, ◌+◌, ◌-◌, ◌<◌, List, set, sym, ap, ◌∙◌, arith}
use Rattle.definition.specs.Bus.{byte_at}
use Rattle.blocks.specs.Bytes.{word_at}
use Rattle.records.specs.Bytes.{patched}

pub patch_none : (r : List ℕ) (at n : ℕ) (m : List ℕ) → n ≡ 0 → patched r at n m ≡ m
unfolding patched
patch_none r at n m e = ap (λ (k : ℕ). patched r at k m) e

pub patch_more : (r : List ℕ) (at n : ℕ) (m : List ℕ) → 0 < n → patched r at n m ≡ patched r (at + 3) (n - 1) (set m (word_at r at) (byte_at r (at + 2)))
unfolding patched
patch_more r at zero m h = absurd (omega arith)
patch_more r at (suc n) m h = let e : suc n - 1 ≡ n = omega arith in rw e

-- one turn of the loop
pub patch_turn : (r : List ℕ) (at n : ℕ) (m : List ℕ) (a v : ℕ) (m' whole : List ℕ) → 0 < n → m' ≡ set m a v → a ≡ word_at r at → v ≡ byte_at r (at + 2) → patched r at n m ≡ whole → patched r (at + 3) (n - 1) m' ≡ whole
patch_turn r at n m a v m' whole h put there byte so_far = rw (put, there, byte) (sym (patch_more r at n m h) ∙ so_far)
