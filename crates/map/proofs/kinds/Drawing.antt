-- Drawing byte by byte: what is drawn so far, and what the rest of the window comes to from here on.
use Rattle.std.proofs.Common.{Option}
use mathlib.Core.Path.{◌≡◌, sym, ap, ◌∙◌}
use mathlib.Core.List.{List, [], ◌∷◌, ◌++◌, append_assoc, append-nil}
use Prim.Native.Nat.{ℕ, zero, suc, ◌+◌, ◌-◌, ◌≤◌, ◌<◌}
use native.Mathlib.Numerals.{add-one}
use native.Mathlib.Omega.{arith}
use lib.ListN.{length, take, set, length-set}
use lib.Seq.{take_all, take-suc-set}
use Rattle.sm83.specs.Basics.{next}
use Rattle.definition.specs.Bus.{byte_at}
use Rattle.map.specs.declared.kinds.Kind.{Kind}
use Rattle.map.specs.declared.kinds.Kind.TheVariants.{NotReached}
use Rattle.map.specs.declared.kinds.Stop.{Stop}
use Rattle.map.specs.declared.kinds.Cell.{Cell}
use Rattle.map.specs.Kinds.{cell, cell_at, kinds_from}

-- of a window of n bytes, i are drawn; the last of them is `before`, and the next one stands at a
pub record Drawn (m : List ℕ) (stop : Option Stop) (first n i : ℕ) (before : Cell) (a : ℕ) (kinds : List Kind) : Type 0 where
  pub inside : i ≤ n
  pub kept : length kinds ≡ n
  pub so_far : kinds_from m stop (cell NotReached 0) first n ≡ take i kinds ++ kinds_from m stop before a (n - i)

-- the byte at a comes first, and the one at b next
next_one : (m : List ℕ) (stop : Option Stop) (before c : Cell) (a b : ℕ) → c ≡ cell_at stop before a (byte_at m a) → b ≡ next a → (left rest : ℕ) → left ≡ rest + 1 → kinds_from m stop before a left ≡ c.kind ∷ kinds_from m stop c b rest
unfolding kinds_from
next_one m stop before c a b e f zero rest h = absurd (omega arith)
next_one m stop before c a b e f (suc left) rest h =
    let same : left ≡ rest = omega arith in
    simp (← e, ← f, same)

module _ (m : List ℕ) (stop : Option Stop) (first n : ℕ) where
  pub begun : (kinds : List Kind) → length kinds ≡ n → Drawn m stop first n 0 (cell NotReached 0) first kinds
  begun kinds k =
      let all : n ≡ n - 0 = omega arith in
      record { inside = omega arith; kept = k; so_far = ap (kinds_from m stop (cell NotReached 0) first) all }

  module _ {i a : ℕ} {before : Cell} {kinds : List Kind} (d : Drawn m stop first n i before a kinds) where
    pub onward : i < n → (c : Cell) → c ≡ cell_at stop before a (byte_at m a) → (b : ℕ) → b ≡ next a → Drawn m stop first n (i + 1) c b (set kinds i c.kind)
    onward more c e b f =
        record {
          inside = omega arith;
          kept = length-set kinds i c.kind ∙ d.kept;
          so_far = d.so_far ∙ ap (λ (l : List Kind). take i kinds ++ l) (next_one m stop before c a b e f (n - i) (n - (i + 1)) (omega arith)) ∙ sym (append_assoc (take i kinds) (c.kind ∷ []) (kinds_from m stop c b (n - (i + 1)))) ∙ ap (λ (l : List Kind). l ++ kinds_from m stop c b (n - (i + 1))) stored;
        }
      where
        stored : take i kinds ++ (c.kind ∷ []) ≡ take (i + 1) (set kinds i c.kind)
        stored =
            let there : i < length kinds = omega (arith, d.kept) in
            sym (rw (add-one, take-suc-set kinds i c.kind there))

    pub ended : n ≤ i → kinds ≡ kinds_from m stop (cell NotReached 0) first n
    unfolding kinds_from
    ended done =
        let none : n - i ≡ 0 = omega arith in
        sym (d.so_far ∙ ap (λ (j : ℕ). take i kinds ++ kinds_from m stop before a j) none ∙ append-nil (take i kinds) ∙ take_all i kinds (omega (arith, d.kept)))
