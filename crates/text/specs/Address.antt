-- An address as it is written: four hexadecimal digits (0300, as the tool writes it), 0x or $ and hexadecimal digits (0x300, $0300), decimal digits and a dot (768.), or one decimal digit, which is the same both ways. Anything else is none.
use Rattle.std.specs.Prelude.{Bool, true, false, ◌&&◌, ◌||◌, List, ℕ, ◌-◌, eqb, ltb, length, take, drop, get_or, Result, Err}
use Rattle.std.specs.List.{list_all}
use Rattle.text.specs.Page.{choose}
use Rattle.text.specs.declared.number.Fault.{Fault}
use Rattle.text.specs.declared.number.Fault.TheVariants.{Empty, NotADigit, HAtTheEnd, NotFourDigits}
use Rattle.text.specs.declared.number.Digit.{Digit}
use Rattle.text.specs.declared.number.Digit.TheVariants as digit
use Rattle.text.specs.declared.number.Reading.TheVariants.{Decimal, Prefix}
use Rattle.text.specs.Number.{digit_of, read_on}

-- a word's last byte, and the word without it
abbrev pub last : List ℕ → ℕ
last word = get_or word (length word - 1) 0

abbrev pub front : List ℕ → List ℕ
front word = take (length word - 1) word

abbrev pub is_digit : Bool → Digit → Bool
is_digit hex (digit.Decimal d) = true
is_digit hex (digit.Letter d) = hex
is_digit hex digit.H = false
is_digit hex digit.Other = false

-- digits alone: hexadecimal, or decimal
abbrev pub all_digits : Bool → List ℕ → Bool
all_digits hex word = list_all (λ b. is_digit hex (digit_of b)) word

-- H or h
abbrev pub is_h : ℕ → Bool
is_h b = eqb b 72 || eqb b 104

-- why a word is not digits alone: there is an h behind them, or something else
unfoldable pub not_digits : List ℕ → Fault
not_digits word = choose (ltb 1 (length word)) (choose (is_h (last word) && all_digits true (front word)) HAtTheEnd NotADigit) NotADigit

-- hexadecimal digits; none is a fault of its own
unfoldable pub hex_in : List ℕ → Result ℕ Fault
hex_in word = choose (all_digits true word) (read_on Prefix word) (Err (not_digits word))

-- decimal digits, one at least
unfoldable pub decimal_in : List ℕ → Result ℕ Fault
decimal_in word = choose (ltb 0 (length word) && all_digits false word) (read_on (Decimal 0) word) (Err NotADigit)

-- a word without a mark: four digits, or a decimal digit alone
unfoldable pub plain_in : List ℕ → Result ℕ Fault
plain_in word =
    choose (eqb (length word) 4 || (eqb (length word) 1 && all_digits false word)) (hex_in word)
    (choose (all_digits true word) (Err NotFourDigits) (Err (not_digits word)))

-- X or x
abbrev pub is_x : ℕ → Bool
is_x b = eqb b 88 || eqb b 120

-- how many bytes in front say that the digits are hexadecimal: $ is one, 0x are two
unfoldable pub mark_of : List ℕ → ℕ
mark_of word = choose (eqb (get_or word 0 0) 36) 1 (choose (eqb (get_or word 0 0) 48 && is_x (get_or word 1 0)) 2 0)

-- 46 is the dot
unfoldable pub address_in : List ℕ → Result ℕ Fault
address_in word =
    choose (ltb 0 (length word))
    (choose (ltb 0 (mark_of word)) (hex_in (drop (mark_of word) word))
    (choose (eqb (last word) 46) (decimal_in (front word)) (plain_in word)))
    (Err Empty)
