-- How the count of differences goes on: one record judged, one that is not whole, none left, a rest.
use Rattle.std.proofs.Common.{◌≡◌, ℕ, zero, suc, ◌+◌, ◌-◌, ◌<◌, ◌≤◌, Bool, true, false, not, List, length, take, drop, sym, ap, ◌∙◌, ap₂, arith, length-drop, drop-drop, eq-eqb, ne_eqb, le-leb}
use Rattle.std.specs.Int.{from_bool}
use Rattle.sm83.specs.Basics.{bit}
use Rattle.blocks.specs.Bytes.{word_at}
use Rattle.records.specs.Bytes.{part}
use Rattle.records.specs.Front.{front_size}
use Rattle.replay.specs.Replay.{agrees, differing, differs}

pub in_all : (s : List ℕ) {count n : ℕ} → 2 ≤ length s → count ≡ word_at s 0 → n ≡ differing count (drop 2 s) → n ≡ differs s
in_all s h told e = simp (le-leb 2 (length s) h) (e ∙ ap (λ (k : ℕ). differing k (drop 2 s)) told)

module _ (s : List ℕ) (at : ℕ) where
  pub none_left : (n : ℕ) → n ≡ 0 → length s ≤ at → differing n (drop at s) ≡ 0
  unfolding differing
  none_left n e h =
      let empty : length (drop at s) ≡ 0 = omega (arith, length-drop at s) in
      ap (λ (k : ℕ). differing k (drop at s)) e ∙ simp (eq-eqb (length (drop at s)) 0 empty)

  pub rest_left : (n : ℕ) → n ≡ 0 → at < length s → differing n (drop at s) ≡ 1
  unfolding differing
  rest_left n e h =
      ap (λ (k : ℕ). differing k (drop at s)) e
      ∙ simp (ne_eqb (length (drop at s)) 0 (λ empty. more (length-drop at s) empty h))
    where
      more : {l : ℕ} → l ≡ length s - at → l ≡ 0 → at < length s → ⊥
      more f g k = omega arith

  pub cut_short : (n size : ℕ) → 0 < n → size ≡ front_size (drop at s) → size ≡ 0 → differing n (drop at s) ≡ 1
  unfolding differing
  cut_short zero size h told none = absurd (omega arith)
  cut_short (suc n) size h told none = simp (eq-eqb (front_size (drop at s)) 0 (sym told ∙ none))

  pub judged : (n size one : ℕ) → 0 < n → size ≡ front_size (drop at s) → (size ≡ 0 → ⊥) → one ≡ bit (not (agrees (part s at (at + size)))) → differing n (drop at s) ≡ one + differing (n - 1) (drop (at + size) s)
  unfolding differing
  judged zero size one h told some says = absurd (omega arith)
  judged (suc n) size one h told some says =
      let fewer : suc n - 1 ≡ n = omega arith in
      let long : at + size - at ≡ size = omega arith in
      let record_is : take (front_size (drop at s)) (drop at s) ≡ part s at (at + size) = ap (λ (k : ℕ). take k (drop at s)) (sym told ∙ sym long) in
      let rest-is : drop (front_size (drop at s)) (drop at s) ≡ drop (at + size) s = ap (λ (k : ℕ). drop k (drop at s)) (sym told) ∙ drop-drop size at s in
      simp (ne_eqb (front_size (drop at s)) 0 (λ e. some (told ∙ e)))
      (ap₂ (λ (x y : List ℕ). bit (not (agrees x)) + differing n y) record_is rest-is
      ∙ ap₂ (λ (d k : ℕ). d + differing k (drop (at + size) s)) (sym says) (sym fewer))

-- what a record adds: 1 if the core does not agree with it
pub one_unless : (same : Bool) {one : ℕ} → one ≡ from_bool (not same) → (one ≡ bit (not same)) × (one ≤ 1)
one_unless true e = (e, omega arith)
one_unless false e = (e, omega arith)

-- a turn of the loop, and its three ends, each with the differences so far
module _ (s : List ℕ) (at count i differ : ℕ) {whole : ℕ} (so_far : differ + differing (count - i) (drop at s) ≡ whole) where
  pub one_more : {size one : ℕ} → i < count → size ≡ front_size (drop at s) → (size ≡ 0 → ⊥) → one ≡ bit (not (agrees (part s at (at + size)))) → differ + one + differing (count - (i + 1)) (drop (at + size) s) ≡ whole
  one_more {size} {one} h told some says =
      let fewer : count - i - 1 ≡ count - (i + 1) = omega arith in
      omega (arith, judged s at (count - i) size one (omega arith) told some says, ap (λ (k : ℕ). differing k (drop (at + size) s)) fewer)

  pub ends_cut : {size : ℕ} → i < count → size ≡ front_size (drop at s) → size ≡ 0 → differ + 1 ≡ whole
  ends_cut {size} h told none = omega (arith, cut_short s at (count - i) size (omega arith) told none)

  pub ends_with_rest : count ≤ i → at < length s → differ + 1 ≡ whole
  ends_with_rest h more = omega (arith, rest_left s at (count - i) (omega arith) more)

  pub ends : count ≤ i → length s ≤ at → differ ≡ whole
  ends h none = omega (arith, none_left s at (count - i) (omega arith) none)
