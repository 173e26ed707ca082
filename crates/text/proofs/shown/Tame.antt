-- What is shown of a word, whatever its bytes, holds none that a terminal obeys: by the bytes of the word, each written or coded.
use mathlib.Core.Path.{◌≡◌, refl, sym, ap, ◌∙◌}
use mathlib.Core.Bool.{Bool, true, false, not, ◌&&◌, ◌||◌}
use mathlib.Core.List.{List, [], ◌∷◌, ◌++◌}
use Prim.Native.Nat.{ℕ, ◌/◌, ◌%◌, ◌<◌, ◌≤◌}
use native.Mathlib.Omega.{arith}
use lib.Dec.{eqb, ltb}
use borrow.Author.Tests.{ltb-true, ltb-false, le-ltb, ne_eqb}
use Rattle.text.specs.Page.{choose}
use Rattle.text.specs.Hex.{glyph}
use Rattle.text.specs.Shown.{obeyed, coded, shown_byte, shown_from, shown}
use Rattle.text.proofs.hex.Sixteen.{agree}

-- a terminal obeys no byte of these, the first of which stands behind `before`
unfoldable pub tame : ℕ → List ℕ → Bool
tame before [] = true
tame before (b ∷ bs) = not (obeyed before b) && tame b bs

calm : (before b : ℕ) (bs : List ℕ) → obeyed before b ≡ false → tame b bs ≡ true → tame before (b ∷ bs) ≡ true
unfolding tame
calm before b bs plain rest = ap (λ (t : Bool). not t && tame b bs) plain ∙ rest

-- of the byte before it counts alone whether it is C2
by_lead : (p q b : ℕ) → eqb p 194 ≡ eqb q 194 → obeyed p b ≡ obeyed q b
unfolding obeyed
by_lead p q b same = ap (λ (t : Bool). (ltb b 32 || eqb b 127) || (t && (ltb 127 b && ltb b 160))) same

-- the bytes of a code: \ behind any byte, and digits
slash_by : (t : Bool) → (ltb 92 32 || eqb 92 127) || (t && (ltb 127 92 && ltb 92 160)) ≡ false
slash_by true = refl
slash_by false = refl

slash : (before : ℕ) → obeyed before 92 ≡ false
unfolding obeyed
slash before = slash_by (eqb before 194)

letter : obeyed 92 120 ≡ false
unfolding obeyed
letter = refl

digit : (d : ℕ) → d < 16 → obeyed 0 (glyph d) ≡ false
unfolding obeyed
digit = agree _ _ 16 refl

no_lead : (d : ℕ) → d < 16 → eqb (glyph d) 194 ≡ false
no_lead = agree _ _ 16 refl

-- a byte that is obeyed is small: it is no C2, and it has two digits
and_false : (a : Bool) → a && false ≡ false
and_false true = refl
and_false false = refl

large : (before b : ℕ) → 160 ≤ b → obeyed before b ≡ false
unfolding obeyed
large before b high =
    ap (λ (t : Bool). (t || eqb b 127) || (eqb before 194 && (ltb 127 b && ltb b 160))) (le-ltb b 32 (omega arith))
    ∙ ap (λ (t : Bool). t || (eqb before 194 && (ltb 127 b && ltb b 160))) (ne_eqb b 127 (λ e. omega (arith, e)))
    ∙ ap (λ (t : Bool). eqb before 194 && (ltb 127 b && t)) (le-ltb b 160 (omega arith))
    ∙ ap (λ (t : Bool). eqb before 194 && t) (and_false (ltb 127 b))
    ∙ and_false (eqb before 194)

small_by : (t : Bool) (before b : ℕ) → ltb b 160 ≡ t → obeyed before b ≡ true → b < 160
small_by true before b below control = ltb-true b 160 below
small_by false before b above control =
    let none = large before b (ltb-false b 160 above) in
    let z : ◌≡◌ {A = ℕ} 0 1 = cc in
    absurd (omega arith)

-- what follows a code or a byte goes by whether the byte is C2
abbrev GoesOn : ℕ → List ℕ → Type 0
GoesOn b rest = (q : ℕ) → eqb q 194 ≡ eqb b 194 → tame q rest ≡ true

code_tame : (before b : ℕ) (rest : List ℕ) → b < 160 → GoesOn b rest → tame before (coded b ++ rest) ≡ true
code_tame before b rest small goes_on =
    let high = digit (b / 16) (omega arith) in
    let low = digit (b % 16) (omega arith) in
    let none : false ≡ eqb b 194 = sym (ne_eqb b 194 (λ e. omega (arith, e))) in
    let tail = goes_on (glyph (b % 16)) (no_lead (b % 16) (omega arith) ∙ none) in
    let last = calm (glyph (b / 16)) (glyph (b % 16)) rest (by_lead (glyph (b / 16)) 0 (glyph (b % 16)) (no_lead (b / 16) (omega arith)) ∙ low) tail in
    calm before 92 _ (slash before) (calm 92 120 _ letter (calm 120 (glyph (b / 16)) _ (by_lead 120 0 (glyph (b / 16)) refl ∙ high) last))

byte_tame : (t : Bool) (p before b : ℕ) (rest : List ℕ) → obeyed before b ≡ t → eqb p 194 ≡ eqb before 194 → GoesOn b rest → tame p (shown_byte before b ++ rest) ≡ true
unfolding shown_byte
byte_tame true p before b rest control same goes_on =
    ap (λ (t : Bool). tame p (choose t (coded b) (b ∷ []) ++ rest)) control ∙ code_tame p b rest (small_by (ltb b 160) before b refl control) goes_on
byte_tame false p before b rest plain same goes_on =
    ap (λ (t : Bool). tame p (choose t (coded b) (b ∷ []) ++ rest)) plain ∙ calm p b rest (by_lead p before b same ∙ plain) (goes_on b refl)

tame_from : (word : List ℕ) (p before : ℕ) → eqb p 194 ≡ eqb before 194 → tame p (shown_from before word) ≡ true
unfolding tame shown_from
tame_from [] p before same = refl
tame_from (b ∷ bs) p before same = byte_tame (obeyed before b) p before b (shown_from b bs) refl same (λ q same. tame_from bs q b same)

pub shown_tame : (word : List ℕ) → tame 0 (shown word) ≡ true
shown_tame word = tame_from word 0 0 refl
