-- Words that are addresses and words that are none, each read: by computing.
use mathlib.Core.Path.{◌≡◌, refl}
use mathlib.Core.List.{List, [], ◌∷◌, map}
use Prim.Native.String.{String}
use Rattle.text.specs.Page.{ascii}
use Rattle.text.specs.declared.number.Fault.{Fault}
use Rattle.text.specs.declared.number.Fault.TheVariants.{Empty, NotADigit, HAtTheEnd, NoDigitAfterPrefix, NotFourDigits, TooLarge}
use Rattle.std.specs.Prelude.{ℕ, Result, Ok, Err}
use Rattle.text.specs.Number.{digit_of, grown, read_decimal, read_hex, read_byte, reads, ended}
use Rattle.text.specs.Address.{not_digits, hex_in, decimal_in, plain_in, mark_of, address_in}

unfoldable each : List String → List (Result ℕ Fault)
each words = map (λ (word : String). address_in (ascii word)) words

four_digits : each ("0300" ∷ "C000" ∷ "c000" ∷ "0009" ∷ []) ≡ Ok 0x300 ∷ Ok 0xC000 ∷ Ok 0xC000 ∷ Ok 9 ∷ []
unfolding each address_in mark_of plain_in hex_in digit_of reads read_byte read_hex grown ended
four_digits = refl

marked : each ("0x300" ∷ "0X300" ∷ "$0300" ∷ "336." ∷ "0" ∷ "7" ∷ []) ≡ Ok 0x300 ∷ Ok 0x300 ∷ Ok 0x300 ∷ Ok 336 ∷ Ok 0 ∷ Ok 7 ∷ []
unfolding each address_in mark_of plain_in hex_in decimal_in digit_of reads read_byte read_hex read_decimal grown ended
marked = refl

other_lengths : each ("150" ∷ "40000" ∷ "A" ∷ "336" ∷ []) ≡ Err NotFourDigits ∷ Err NotFourDigits ∷ Err NotFourDigits ∷ Err NotFourDigits ∷ []
unfolding each address_in mark_of plain_in digit_of
other_lengths = refl

none : each ("" ∷ "." ∷ "0x" ∷ "$" ∷ "150h" ∷ "0150H" ∷ "4294967296." ∷ []) ≡ Err Empty ∷ Err NotADigit ∷ Err NoDigitAfterPrefix ∷ Err NoDigitAfterPrefix ∷ Err HAtTheEnd ∷ Err HAtTheEnd ∷ Err TooLarge ∷ []
unfolding each address_in mark_of plain_in hex_in decimal_in not_digits digit_of reads read_byte read_decimal grown ended
none = refl
