-- The mark in front of an address and the dot behind it, as the library's tests of an end see them; and the three ways that an address goes on.
use mathlib.Core.Path.{◌≡◌, refl, sym, ap, ◌∙◌}
use mathlib.Core.Bool.{Bool, true, false, ◌&&◌, ◌||◌}
use mathlib.Core.List.{List, [], ◌∷◌}
use Prim.Native.Nat.{ℕ, zero, suc, ◌+◌, ◌-◌, ◌<◌}
use native.Mathlib.Omega.{arith}
use lib.Dec.{eqb, ltb}
use lib.ListN.{length, take, drop, get_or}
use borrow.Author.Tests.{lt-ltb}
use Rattle.std.specs.Prelude.{bytes_eq}
use Rattle.text.specs.Page.{choose}
use Rattle.text.specs.Address.{last, front, hex_in, decimal_in, plain_in, mark_of, address_in}
use Rattle.text.proofs.lines.Found.{here, over}

module _ (word : List ℕ) (n : ℕ) (some : ltb 0 (length word) ≡ true) (is : n ≡ mark_of word) where
  pub marked : ltb 0 n ≡ true → hex_in (drop n word) ≡ address_in word
  unfolding address_in
  marked mark = simp (some, ← is, mark)

  pub dotted : ltb 0 n ≡ false → eqb (last word) 46 ≡ true → decimal_in (front word) ≡ address_in word
  unfolding address_in
  dotted none dot = simp (some, ← is, none, dot)

  pub plain : ltb 0 n ≡ false → eqb (last word) 46 ≡ false → plain_in word ≡ address_in word
  unfolding address_in
  plain none other = simp (some, ← is, none, other)

-- how long the mark is, by what the tests for $, 0, x and X say
abbrev length_by : (d z s l : Bool) → ℕ
length_by d z s l = choose d 1 (choose (z && (l || s)) 2 0)

by_dollar : (d z s l : Bool) → d && true ≡ true → 1 ≡ length_by d z s l
by_dollar true z s l e = refl
by_dollar false z s l e = cc

by_small : (d z s l : Bool) → d && true ≡ false → z && (s && true) ≡ true → 2 ≡ length_by d z s l
by_small true z s l e f = cc
by_small false false s l e f = cc
by_small false true false l e f = cc
by_small false true true false e f = refl
by_small false true true true e f = refl

by_large : (d z s l : Bool) → d && true ≡ false → z && (l && true) ≡ true → 2 ≡ length_by d z s l
by_large true z s l e f = cc
by_large false false s l e f = cc
by_large false true s false e f = cc
by_large false true s true e f = refl

by_none : (d z s l : Bool) → d && true ≡ false → z && (s && true) ≡ false → z && (l && true) ≡ false → 0 ≡ length_by d z s l
by_none true z s l e f g = cc
by_none false false s l e f g = refl
by_none false true true l e f g = cc
by_none false true false true e f g = cc
by_none false true false false e f g = refl

by_one : (d z : Bool) → d && true ≡ false → 0 ≡ length_by d z false false
by_one true z e = cc
by_one false true e = refl
by_one false false e = refl

dollar_mark : (word : List ℕ) → bytes_eq (take 1 word) (36 ∷ []) ≡ true → 1 ≡ mark_of word
unfolding mark_of
dollar_mark [] e = cc
dollar_mark (a ∷ word) e = by_dollar (eqb a 36) (eqb a 48) (eqb (get_or word 0 0) 120) (eqb (get_or word 0 0) 88) e

small_mark : (word : List ℕ) → bytes_eq (take 1 word) (36 ∷ []) ≡ false → bytes_eq (take 2 word) (48 ∷ 120 ∷ []) ≡ true → 2 ≡ mark_of word
unfolding mark_of
small_mark [] e f = cc
small_mark (a ∷ []) e f = by_small (eqb a 36) (eqb a 48) (eqb 0 120) (eqb 0 88) e f
small_mark (a ∷ b ∷ word) e f = by_small (eqb a 36) (eqb a 48) (eqb b 120) (eqb b 88) e f

large_mark : (word : List ℕ) → bytes_eq (take 1 word) (36 ∷ []) ≡ false → bytes_eq (take 2 word) (48 ∷ 88 ∷ []) ≡ true → 2 ≡ mark_of word
unfolding mark_of
large_mark [] e f = cc
large_mark (a ∷ []) e f = by_large (eqb a 36) (eqb a 48) (eqb 0 120) (eqb 0 88) e f
large_mark (a ∷ b ∷ word) e f = by_large (eqb a 36) (eqb a 48) (eqb b 120) (eqb b 88) e f

no_mark : (word : List ℕ) → bytes_eq (take 1 word) (36 ∷ []) ≡ false → bytes_eq (take 2 word) (48 ∷ 120 ∷ []) ≡ false → bytes_eq (take 2 word) (48 ∷ 88 ∷ []) ≡ false → 0 ≡ mark_of word
unfolding mark_of
no_mark [] e f g = refl
no_mark (a ∷ []) e f g = by_one (eqb a 36) (eqb a 48) e
no_mark (a ∷ b ∷ word) e f g = by_none (eqb a 36) (eqb a 48) (eqb b 120) (eqb b 88) e f g

and_true : (t : Bool) → t ≡ (t && true)
and_true true = refl
and_true false = refl

-- the last byte, as a part of one byte at the end
at_end : (word : List ℕ) (b : ℕ) → 0 < length word → eqb (last word) b ≡ bytes_eq (drop (length word - 1) word) (b ∷ [])
at_end word b some =
    let i = length word - 1 in
    let none : drop (i + 1) word ≡ [] = over word (i + 1) (omega arith) in
    and_true (eqb (last word) b)
    ∙ ap (λ (l : List ℕ). eqb (last word) b && bytes_eq l []) (sym none)
    ∙ ap (λ (l : List ℕ). bytes_eq l (b ∷ [])) (sym (here word i (omega arith)))

pub not_empty : (n : ℕ) {empty : Bool} → empty ≡ eqb n 0 → empty ≡ false → 0 < n
not_empty zero is other = cc
not_empty (suc n) is other = omega arith

-- an address by its ends
module _ (word : List ℕ) (some : 0 < length word) where
  pub by_dollar_sign : bytes_eq (take 1 word) (36 ∷ []) ≡ true → hex_in (drop 1 word) ≡ address_in word
  by_dollar_sign e = marked word 1 (lt-ltb _ _ some) (dollar_mark word e) refl

  module _ (no_dollar : bytes_eq (take 1 word) (36 ∷ []) ≡ false) where
    pub by_small_x : bytes_eq (take 2 word) (48 ∷ 120 ∷ []) ≡ true → hex_in (drop 2 word) ≡ address_in word
    by_small_x e = marked word 2 (lt-ltb _ _ some) (small_mark word no_dollar e) refl

    pub by_large_x : bytes_eq (take 2 word) (48 ∷ 88 ∷ []) ≡ true → hex_in (drop 2 word) ≡ address_in word
    by_large_x e = marked word 2 (lt-ltb _ _ some) (large_mark word no_dollar e) refl

    module _ (no_small : bytes_eq (take 2 word) (48 ∷ 120 ∷ []) ≡ false) (no_large : bytes_eq (take 2 word) (48 ∷ 88 ∷ []) ≡ false) where
      pub by_dot : bytes_eq (drop (length word - 1) word) (46 ∷ []) ≡ true → decimal_in (take (length word - 1) word) ≡ address_in word
      by_dot e = dotted word 0 (lt-ltb _ _ some) (no_mark word no_dollar no_small no_large) refl (at_end word 46 some ∙ e)

      pub by_none_of_these : bytes_eq (drop (length word - 1) word) (46 ∷ []) ≡ false → plain_in word ≡ address_in word
      by_none_of_these e = plain word 0 (lt-ltb _ _ some) (no_mark word no_dollar no_small no_large) refl (at_end word 46 some ∙ e)
