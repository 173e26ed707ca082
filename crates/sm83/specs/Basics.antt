-- Small words that every other page uses: a choice, bytes and words, sums that wrap.
use Rattle.std.specs.Prelude.{if◌then◌else◌, ℕ, ◌+◌, ◌-◌, ◌*◌, ◌/◌, ◌%◌, ◌^◌, Bool, true, false, nat_lt}

-- a truth value as a bit
abbrev pub bit : Bool → ℕ
bit true = 1
bit false = 0

-- bit n of a number; the number with bit n cleared (RES, and "clears that bit alone"), or set (SET)
abbrev pub bit_at : ℕ → ℕ → ℕ
bit_at n x = x / 2 ^ n % 2

abbrev pub cleared : ℕ → ℕ → ℕ
cleared n x = x - bit_at n x * 2 ^ n

abbrev pub raised : ℕ → ℕ → ℕ
raised n x = x + (1 - bit_at n x) * 2 ^ n

-- two bytes as a word, and a word's two bytes: AF, BC, DE, HL, and the n16 of the reference, which stands low byte first in memory
abbrev pub word : ℕ → ℕ → ℕ
word high low = high * 256 + low

abbrev pub high_byte : ℕ → ℕ
high_byte w = w / 256

abbrev pub low_byte : ℕ → ℕ
low_byte w = w % 256

-- "SP and PC wrap at 65,536, both ways"
abbrev pub next : ℕ → ℕ
next a = (a + 1) % 65536

abbrev pub back : ℕ → ℕ
back a = (a + 65535) % 65536

-- a byte as a signed one, modulo 65,536: 80 to FF stand for -128 to -1
abbrev pub signed : ℕ → ℕ
signed e = if nat_lt e 128 then e else e + 0xff00

-- e8 of the reference added to a word: "A JR target counts from the byte after the JR, modulo 65,536"
abbrev pub offset : ℕ → ℕ → ℕ
offset a e = (a + signed e) % 65536
