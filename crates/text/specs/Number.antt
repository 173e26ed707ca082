-- Numbers as a person writes them.
use Rattle.std.specs.Prelude.{Bool, true, false, ◌||◌, List, [], ◌∷◌, ℕ, ◌+◌, ◌-◌, ◌*◌, eqb, ltb, Result, Ok, Err}
use Rattle.text.specs.Page.{choose}
use Rattle.text.specs.declared.number.Fault.{Fault}
use Rattle.text.specs.declared.number.Fault.TheVariants.{Empty, NotADigit, HAtTheEnd, HexWithoutPrefix, NoDigitAfterPrefix, TooLarge}
use Rattle.text.specs.declared.number.Digit.{Digit}
use Rattle.text.specs.declared.number.Digit.TheVariants as digit
use Rattle.text.specs.declared.number.Reading.{Reading}
use Rattle.text.specs.declared.number.Reading.TheVariants.{Nothing, Zero, Decimal, Prefix, Hex}

-- 0 to 9, A to F, H, a to f, h
unfoldable pub digit_of : ℕ → Digit
digit_of b =
    choose (ltb b 48) digit.Other
    (choose (ltb b 58) (digit.Decimal (b - 48))
    (choose (ltb b 65) digit.Other
    (choose (ltb b 71) (digit.Letter (b - 55))
    (choose (eqb b 72) digit.H
    (choose (ltb b 97) digit.Other
    (choose (ltb b 103) (digit.Letter (b - 87))
    (choose (eqb b 104) digit.H digit.Other)))))))

abbrev pub times_base : ℕ → Bool → ℕ
times_base value true = value * 16
times_base value false = value * 10

-- one digit more, up to 4,294,967,295
unfoldable pub grown : ℕ → Bool → ℕ → Result ℕ Fault
grown value hex d =
    choose (ltb 4294967295 value) (Err TooLarge)
    (choose (ltb 4294967295 (times_base value hex + d)) (Err TooLarge) (Ok (times_base value hex + d)))

-- what comes of an answer; a fault stays
abbrev pub going_on : {A B : Type 0} → (A → Result B Fault) → Result A Fault → Result B Fault
going_on f (Ok x) = f x
going_on f (Err fault) = Err fault

abbrev pub decimal : Result ℕ Fault → Result Reading Fault
decimal = going_on (λ n. Ok (Decimal n))

abbrev pub hexadecimal : Result ℕ Fault → Result Reading Fault
hexadecimal = going_on (λ n. Ok (Hex n))

unfoldable pub read_decimal : ℕ → Digit → Result Reading Fault
read_decimal value (digit.Decimal d) = decimal (grown value false d)
read_decimal value (digit.Letter d) = Err HexWithoutPrefix
read_decimal value digit.H = Err HAtTheEnd
read_decimal value digit.Other = Err NotADigit

unfoldable pub read_hex : ℕ → Digit → Result Reading Fault
read_hex value (digit.Decimal d) = hexadecimal (grown value true d)
read_hex value (digit.Letter d) = hexadecimal (grown value true d)
read_hex value digit.H = Err HAtTheEnd
read_hex value digit.Other = Err NotADigit

-- 48 is 0, 120 and 88 are x and X
unfoldable pub begun : ℕ → Result Reading Fault
begun b = choose (eqb b 48) (Ok Zero) (read_decimal 0 (digit_of b))

unfoldable pub after_zero : ℕ → Result Reading Fault
after_zero b = choose (eqb b 120 || eqb b 88) (Ok Prefix) (read_decimal 0 (digit_of b))

-- one byte more
unfoldable pub read_byte : Reading → ℕ → Result Reading Fault
read_byte Nothing b = begun b
read_byte Zero b = after_zero b
read_byte (Decimal value) b = read_decimal value (digit_of b)
read_byte Prefix b = read_hex 0 (digit_of b)
read_byte (Hex value) b = read_hex value (digit_of b)

-- the bytes one after the other; the first mistake stays
unfoldable pub reads : Reading → List ℕ → Result Reading Fault
reads r [] = Ok r
reads r (b ∷ bs) = going_on (λ next. reads next bs) (read_byte r b)

unfoldable pub ended : Reading → Result ℕ Fault
ended Nothing = Err Empty
ended Zero = Ok 0
ended (Decimal value) = Ok value
ended Prefix = Err NoDigitAfterPrefix
ended (Hex value) = Ok value

-- the number of a text, after what has been read before
abbrev pub read_on : Reading → List ℕ → Result ℕ Fault
read_on r text = going_on ended (reads r text)

abbrev pub number_in : List ℕ → Result ℕ Fault
number_in text = read_on Nothing text
