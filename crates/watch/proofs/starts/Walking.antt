-- Marking byte by byte: what is marked so far, and what the rest of the window comes to from here on.
use mathlib.Core.Path.{◌≡◌, refl, sym, ap, ◌∙◌}
use mathlib.Core.Bool.{Bool}
use mathlib.Core.List.{List, [], ◌∷◌, ◌++◌, append_assoc, append-nil}
use Prim.Native.Nat.{ℕ, zero, suc, ◌+◌, ◌-◌, ◌≤◌, ◌<◌}
use native.Mathlib.Numerals.{add-one}
use native.Mathlib.Omega.{arith}
use mir.Val.{bool_byte}
use lib.Dec.{eqb}
use borrow.Author.Tests.{ne_eqb}
use lib.ListN.{length, take, set, length-set}
use lib.Seq.{take_all, take-suc-set}
use Rattle.definition.specs.Bus.{byte_at}
use Rattle.routine.specs.Screen.{marks_from, marks_of}
use Rattle.map.specs.Walk.{left_after}

-- the byte at a comes first, and the one after it next
next_one : (m : List ℕ) (left a n rest : ℕ) → n ≡ rest + 1 → marks_from m left a n ≡ bool_byte (eqb left 0) ∷ marks_from m (left_after left (byte_at m a)) (suc a) rest
unfolding marks_from
next_one m left a zero rest h = absurd (omega arith)
next_one m zero a (suc n) rest h =
    let same : n ≡ rest = omega arith in
    ap (λ (j : ℕ). 1 ∷ marks_from m (left_after 0 (byte_at m a)) (suc a) j) same
next_one m (suc k) a (suc n) rest h =
    let same : n ≡ rest = omega arith in
    rw (ne_eqb (suc k) 0 (λ e. omega arith)) (ap (λ (j : ℕ). 0 ∷ marks_from m k (suc a) j) same)

nothing_left : (m : List ℕ) (left a : ℕ) → marks_from m left a 0 ≡ []
unfolding marks_from
nothing_left m zero a = refl
nothing_left m (suc k) a = refl

-- of a window of n bytes, i are marked; `left` operand bytes are still to come
pub record Marking (m : List ℕ) (first n i left : ℕ) (marks : List ℕ) : Type 0 where
  pub inside : i ≤ n
  pub kept : length marks ≡ n
  pub so_far : marks_of m first n ≡ take i marks ++ marks_from m left (first + i) (n - i)

module _ (m : List ℕ) (first n : ℕ) where
  module _ {i left : ℕ} {marks : List ℕ} (d : Marking m first n i left marks) where
    -- with what the walk tells of the next byte
    pub onward : i < n → (b to_come mark : ℕ) (start : Bool) → b ≡ byte_at m (first + i) → start ≡ eqb left 0 → to_come ≡ left_after left b → mark ≡ bool_byte start → Marking m first n (i + 1) to_come (set marks i mark)
    onward more b to_come mark start read e f g =
        record {
          inside = omega arith;
          kept = length-set marks i mark ∙ d.kept;
          so_far = d.so_far ∙ ap (λ (l : List ℕ). take i marks ++ l) next ∙ sym (append_assoc (take i marks) (mark ∷ []) (marks_from m to_come (first + (i + 1)) (n - (i + 1)))) ∙ ap (λ (l : List ℕ). l ++ marks_from m to_come (first + (i + 1)) (n - (i + 1))) stored;
        }
      where
        next : marks_from m left (first + i) (n - i) ≡ mark ∷ marks_from m to_come (first + (i + 1)) (n - (i + 1))
        next =
            let up : first + (i + 1) ≡ suc (first + i) = omega arith in
            rw (f, g, e, read, up) (next_one m left (first + i) (n - i) (n - (i + 1)) (omega arith))

        stored : take i marks ++ (mark ∷ []) ≡ take (i + 1) (set marks i mark)
        stored =
            let there : i < length marks = omega (arith, d.kept) in
            sym (rw (add-one, take-suc-set marks i mark there))

    pub ended : n ≤ i → marks ≡ marks_of m first n
    ended done =
        let none : n - i ≡ 0 = omega arith in
        sym (d.so_far ∙ ap (λ (j : ℕ). take i marks ++ marks_from m left (first + i) j) none ∙ ap (λ (l : List ℕ). take i marks ++ l) (nothing_left m left (first + i)) ∙ append-nil (take i marks) ∙ take_all i marks (omega (arith, d.kept)))
