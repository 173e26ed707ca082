-- Every address that the tool writes is read back as that address: four digits, one after the other, each a computed test over the sixteen.
use mathlib.Core.Path.{◌≡◌, refl, sym, ap, ◌∙◌}
use mathlib.Core.Bool.{Bool, true, false, ◌&&◌}
use mathlib.Core.List.{List, [], ◌∷◌}
use Prim.Native.Nat.{ℕ, ◌+◌, ◌*◌, ◌/◌, ◌%◌, ◌<◌}
use native.Mathlib.Omega.{arith}
use lib.Dec.{eqb, ltb}
use borrow.Author.Tests.{le-ltb}
use Rattle.text.specs.Page.{choose}
use Rattle.text.specs.Hex.{glyph, hex4}
use Rattle.std.specs.Prelude.{Ok}
use Rattle.text.specs.declared.number.Digit.{Digit}
use Rattle.text.specs.declared.number.Digit.TheVariants as digit
use Rattle.text.specs.declared.number.Reading.{Reading}
use Rattle.text.specs.declared.number.Reading.TheVariants.{Prefix, Hex}
use Rattle.text.specs.Number.{digit_of, grown, going_on, hexadecimal, read_hex, read_byte, reads, ended}
use Rattle.text.specs.Address.{is_digit, all_digits, is_x, hex_in, plain_in, mark_of, address_in}
use Rattle.text.proofs.hex.Sixteen.{agree}
use Rattle.text.proofs.address.Mark.{plain}

-- a digit that was written is no mark, and it is a digit
no_dollar : (d : ℕ) → d < 16 → eqb (glyph d) 36 ≡ false
no_dollar = agree _ _ 16 refl

no_x : (d : ℕ) → d < 16 → is_x (glyph d) ≡ false
no_x = agree _ _ 16 refl

no_dot : (d : ℕ) → d < 16 → eqb (glyph d) 46 ≡ false
no_dot = agree _ _ 16 refl

glyph_is_digit : (d : ℕ) → d < 16 → is_digit true (digit_of (glyph d)) ≡ true
unfolding digit_of
glyph_is_digit = agree _ _ 16 refl

-- it is read as what it was written for
abbrev read_digit : ℕ → Digit
read_digit d = choose (ltb d 10) (digit.Decimal d) (digit.Letter d)

as_digit : (d : ℕ) → d < 16 → digit_of (glyph d) ≡ read_digit d
unfolding digit_of
as_digit = agree _ _ 16 refl

either : (low : Bool) (value d : ℕ) → read_hex value (choose low (digit.Decimal d) (digit.Letter d)) ≡ hexadecimal (grown value true d)
unfolding read_hex
either true value d = refl
either false value d = refl

fits : (value d : ℕ) → value < 4096 → d < 16 → hexadecimal (grown value true d) ≡ Ok (Hex (value * 16 + d))
unfolding grown
fits value d small digit = simp (le-ltb 4294967295 value (omega arith), le-ltb 4294967295 (value * 16 + d) (omega arith))

one_more : (value d : ℕ) → value < 4096 → d < 16 → read_hex value (digit_of (glyph d)) ≡ Ok (Hex (value * 16 + d))
one_more value d small digit = ap (read_hex value) (as_digit d digit) ∙ either (ltb d 10) value d ∙ fits value d small digit

and_false : (a : Bool) → a && false ≡ false
and_false true = refl
and_false false = refl

-- four digits of a number
module _ (x y z w : ℕ) (hx : x < 16) (hy : y < 16) (hz : z < 16) (hw : w < 16) where
  abbrev four : List ℕ
  four = glyph x ∷ glyph y ∷ glyph z ∷ glyph w ∷ []

  abbrev worth : ℕ
  worth = ((x * 16 + y) * 16 + z) * 16 + w

  digits : all_digits true four ≡ true
  digits = simp (glyph_is_digit x hx, glyph_is_digit y hy, glyph_is_digit z hz, glyph_is_digit w hw)

  first : read_byte Prefix (glyph x) ≡ Ok (Hex x)
  unfolding read_byte
  first = one_more 0 x (omega arith) hx ∙ ap (λ (n : ℕ). Ok (Hex n)) (omega arith)

  next : (value d : ℕ) → value < 4096 → d < 16 → read_byte (Hex value) (glyph d) ≡ Ok (Hex (value * 16 + d))
  unfolding read_byte
  next = one_more

  read : reads Prefix four ≡ Ok (Hex worth)
  unfolding reads
  read =
      ap (going_on (λ (r : Reading). reads r (glyph y ∷ glyph z ∷ glyph w ∷ []))) first
      ∙ ap (going_on (λ (r : Reading). reads r (glyph z ∷ glyph w ∷ []))) (next x y (omega arith) hy)
      ∙ ap (going_on (λ (r : Reading). reads r (glyph w ∷ []))) (next (x * 16 + y) z (omega arith) hz)
      ∙ ap (going_on (λ (r : Reading). reads r [])) (next ((x * 16 + y) * 16 + z) w (omega arith) hw)

  as_hex : hex_in four ≡ Ok worth
  unfolding hex_in ended
  as_hex = simp (digits, read)

  no_mark : mark_of four ≡ 0
  unfolding mark_of
  no_mark =
      ap (λ (b : Bool). choose b 1 (choose (eqb (glyph x) 48 && is_x (glyph y)) 2 0)) (no_dollar x hx)
      ∙ ap (λ (b : Bool). choose (eqb (glyph x) 48 && b) 2 0) (no_x y hy)
      ∙ ap (λ (b : Bool). choose b 2 0) (and_false (eqb (glyph x) 48))

  plain_four : plain_in four ≡ hex_in four
  unfolding plain_in
  plain_four = refl

  four_read : address_in four ≡ Ok worth
  four_read = sym (plain four 0 refl (sym no_mark) refl (no_dot w hw)) ∙ plain_four ∙ as_hex

pub read_back : (a : ℕ) → a < 65536 → address_in (hex4 a) ≡ Ok a
read_back a small =
    four_read (a / 256 / 16) (a / 256 % 16) (a % 256 / 16) (a % 256 % 16) (omega arith) (omega arith) (omega arith) (omega arith) ∙ ap Ok (omega arith)
