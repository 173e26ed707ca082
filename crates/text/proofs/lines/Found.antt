-- One byte more of a line, of the lines in front, of the words: what a turn of each loop leaves to do is what was to be done.
use mathlib.Core.Path.{◌≡◌, refl, sym, ap, ◌∙◌}
use mathlib.Core.Bool.{Bool, true, false, cond}
use mathlib.Core.List.{List, [], ◌∷◌}
use Prim.Native.Nat.{ℕ, ◌+◌, ◌-◌, ◌<◌, ◌≤◌}
use native.Mathlib.Numerals.{add-one}
use native.Mathlib.Omega.{arith}
use lib.Dec.{ltb}
use lib.ListN.{length, take, drop, get_or, drop_of_length-le, length-drop}
use lib.Seq.{drop-cons, take_all}
use borrow.Author.Tests.{ltb-false, eq-eqb, ne_eqb}
use Rattle.std.specs.Prelude.{Some, None, nat_lt, position}
use Rattle.std.specs.Int.{from_bool}
use Rattle.std.specs.List.{position_or_len, before_first}
use Rattle.text.specs.Lines.{line_end, from_line, names, number_from}

-- a text that has a byte left, and one that has none
pub here : (text : List ℕ) (i : ℕ) → i < length text → drop i text ≡ get_or text i 0 ∷ drop (i + 1) text
here text i more = drop-cons text i 0 more ∙ ap (λ (n : ℕ). get_or text i 0 ∷ drop n text) (sym (add-one i))

pub over : (text : List ℕ) (i : ℕ) → length text ≤ i → drop i text ≡ []
over text i none_left = drop_of_length-le text none_left

-- a part that starts at `i` and goes to the text's end
pub rest : (text : List ℕ) (i : ℕ) → take (length text - i) (drop i text) ≡ drop i text
rest text i = take_all (length text - i) (drop i text) (omega (arith, length-drop i text))

-- what stands in front of the first byte that a test finds, and all where it finds none
module _ (test : ℕ → Bool) (text : List ℕ) where
  found_by : (t : Bool) (to i : ℕ) → Some to ≡ cond t (Some i) None → take to text ≡ take i text
  found_by true to i e = cc
  found_by false to i e = cc

  none_by : (t : Bool) (i : ℕ) → nat_lt i (length text) ≡ t → None ≡ cond t (Some i) None → text ≡ take i text
  none_by true i past e = cc
  none_by false i past e = sym (take_all i text (ltb-false i (length text) past))

  pub found : (to : ℕ) → Some to ≡ position test text → take to text ≡ before_first test text
  found to = found_by (nat_lt (position_or_len test text) (length text)) to (position_or_len test text)

  pub not_found : None ≡ position test text → text ≡ before_first test text
  not_found = none_by (nat_lt (position_or_len test text) (length text)) (position_or_len test text) refl

-- a test as a number
pub at_most_one : (t : Bool) {n : ℕ} → n ≡ from_bool t → n ≤ 1
at_most_one true is = omega arith
at_most_one false is = omega arith

-- the lines in front: none is left, one byte more, and the text's end
module _ (text : List ℕ) (i left : ℕ) where
  starts_here : i < length text → left ≡ 0 → from_line left (drop i text) ≡ drop i text
  unfolding from_line
  starts_here more none = ap (from_line left) (here text i more) ∙ simp (eq-eqb left 0 none) (sym (here text i more))

  line_passed : i < length text → (left ≡ 0 → ⊥) → from_line (left - line_end (get_or text i 0)) (drop (i + 1) text) ≡ from_line left (drop i text)
  unfolding from_line
  line_passed more some = sym (ap (from_line left) (here text i more) ∙ simp (ne_eqb left 0 some))

  none_there : length text ≤ i → from_line left (drop i text) ≡ drop i text
  unfolding from_line
  none_there none_left = ap (from_line left) (over text i none_left) ∙ sym (over text i none_left)

-- a place in a text, and the part that a cut leaves there: what is in front of it, or from it on
pub record Place (cut : ℕ → List ℕ → List ℕ) (text part : List ℕ) (r : ℕ) : Type 0 where
  pub inside : r ≤ length text
  pub leaves : cut r text ≡ part

-- a turn of the search for line n: it starts here, one byte more, and the text's end
pub line_starts :
    (text : List ℕ) (i left n : ℕ) → from_line left (drop i text) ≡ from_line n text → i < length text → left ≡ 0 → Place drop text (from_line n text) i
line_starts text i left n so_far more none =
    record { inside = omega arith; leaves = sym (starts_here text i left more none) ∙ so_far }

pub line_passes :
    (text : List ℕ) (i left n ends : ℕ) → from_line left (drop i text) ≡ from_line n text → i < length text → (left ≡ 0 → ⊥) → ends ≡ line_end (get_or text i 0) → from_line (left - ends) (drop (i + 1) text) ≡ from_line n text
line_passes text i left n ends so_far more some is =
    ap (λ (k : ℕ). from_line (left - k) (drop (i + 1) text)) is ∙ line_passed text i left more some ∙ so_far

pub text_ends :
    (text : List ℕ) (i left n : ℕ) → from_line left (drop i text) ≡ from_line n text → i ≤ length text → length text ≤ i → Place drop text (from_line n text) i
text_ends text i left n so_far inside none_left =
    record { inside = inside; leaves = sym (none_there text i left none_left) ∙ so_far }

-- the lines that are searched: the word is here, one byte more, and the text's end
module _ (text word : List ℕ) (n : ℕ) (starts : Bool) (i : ℕ) where
  -- the test of a part that goes to the text's end
  pub tested : {r t : Bool} → r ≡ names starts (take (length text - i) (drop i text)) word → r ≡ t → names starts (drop i text) word ≡ t
  tested said found = sym (ap (λ (l : List ℕ). names starts l word) (rest text i)) ∙ sym said ∙ found

  pub word_here : i < length text → names starts (drop i text) word ≡ true → number_from n starts (drop i text) word ≡ Some (n + 1)
  unfolding number_from
  word_here more named =
      let first : names starts (get_or text i 0 ∷ drop (i + 1) text) word ≡ true = ap (λ (l : List ℕ). names starts l word) (sym (here text i more)) ∙ named in
      ap (λ (l : List ℕ). number_from n starts l word) (here text i more) ∙ simp first

  pub word_passed : i < length text → names starts (drop i text) word ≡ false → number_from (n + line_end (get_or text i 0)) (ltb (get_or text i 0) 33) (drop (i + 1) text) word ≡ number_from n starts (drop i text) word
  unfolding number_from
  word_passed more other =
      let first : names starts (get_or text i 0 ∷ drop (i + 1) text) word ≡ false = ap (λ (l : List ℕ). names starts l word) (sym (here text i more)) ∙ other in
      sym (ap (λ (l : List ℕ). number_from n starts l word) (here text i more) ∙ simp first)

  pub no_word : length text ≤ i → number_from n starts (drop i text) word ≡ None
  unfolding number_from
  no_word none_left = ap (λ (l : List ℕ). number_from n starts l word) (over text i none_left)
