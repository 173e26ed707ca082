-- The published columns of the reference, gbz80(7): bytes, M-cycles and flags of all 512 opcodes, written by hand from it.
-- Row: the opcode's high digit. Column: its low digit. The eleven illegal opcodes stand as one byte, one M-cycle, flags unchanged.
use Rattle.std.specs.Prelude.{Bool, true, false, List, [], ◌∷◌, ℕ, ◌/◌, ◌%◌, eqb, get_or, if◌then◌else◌}

-- The flags column in its own words, in the order Z N H C: a letter is computed, a digit is the flag's value, a dash leaves it. `keep` leaves all four.
pub data FlagColumn : Type 0 where
  keep ZNHC Z0HC Z1HC Z0H- Z1H- Z000 Z010 Z01- Z00C Z-0C : FlagColumn
  -0HC -11- -001 -00C 00HC 000C : FlagColumn

-- "flags: unchanged, 0, 1 or computed"
pub data Effect : Type 0 where
  kept is_0 is_1 computed : Effect

pub record Effects : Type 0 where
  pub on_z : Effect
  pub on_n : Effect
  pub on_h : Effect
  pub on_c : Effect

abbrev pub four : Effect → Effect → Effect → Effect → Effects
four z n h c = record { on_z = z; on_n = n; on_h = h; on_c = c }

abbrev pub effects : FlagColumn → Effects
effects keep = four kept kept kept kept
effects ZNHC = four computed computed computed computed
effects Z0HC = four computed is_0 computed computed
effects Z1HC = four computed is_1 computed computed
effects Z0H- = four computed is_0 computed kept
effects Z1H- = four computed is_1 computed kept
effects Z000 = four computed is_0 is_0 is_0
effects Z010 = four computed is_0 is_1 is_0
effects Z01- = four computed is_0 is_1 kept
effects Z00C = four computed is_0 is_0 computed
effects Z-0C = four computed kept is_0 computed
effects -0HC = four kept is_0 computed computed
effects -11- = four kept is_1 is_1 kept
effects -001 = four kept is_0 is_0 is_1
effects -00C = four kept is_0 is_0 computed
effects 00HC = four is_0 is_0 computed computed
effects 000C = four is_0 is_0 is_0 computed

abbrev pub row : {A : Type 0} → A → A → A → A → A → A → A → A → A → A → A → A → A → A → A → A → List A
row x0 x1 x2 x3 x4 x5 x6 x7 x8 x9 xA xB xC xD xE xF =
    x0 ∷ x1 ∷ x2 ∷ x3 ∷ x4 ∷ x5 ∷ x6 ∷ x7 ∷ x8 ∷ x9 ∷ xA ∷ xB ∷ xC ∷ xD ∷ xE ∷ xF ∷ []

-- the entry of an opcode
abbrev pub entry : {A : Type 0} → A → List (List A) → ℕ → A
entry other table opcode = get_or (get_or table (opcode / 16) []) (opcode % 16) other

-- Bytes. "STOP is one byte and one M-cycle"; the byte after CB is counted.
unfoldable pub bytes : List (List ℕ)
bytes =
    row 1 3 1 1 1 1 2 1 3 1 1 1 1 1 2 1
    ∷ row 1 3 1 1 1 1 2 1 2 1 1 1 1 1 2 1
    ∷ row 2 3 1 1 1 1 2 1 2 1 1 1 1 1 2 1
    ∷ row 2 3 1 1 1 1 2 1 2 1 1 1 1 1 2 1
    ∷ row 1 1 1 1 1 1 1 1 1 1 1 1 1 1 1 1
    ∷ row 1 1 1 1 1 1 1 1 1 1 1 1 1 1 1 1
    ∷ row 1 1 1 1 1 1 1 1 1 1 1 1 1 1 1 1
    ∷ row 1 1 1 1 1 1 1 1 1 1 1 1 1 1 1 1
    ∷ row 1 1 1 1 1 1 1 1 1 1 1 1 1 1 1 1
    ∷ row 1 1 1 1 1 1 1 1 1 1 1 1 1 1 1 1
    ∷ row 1 1 1 1 1 1 1 1 1 1 1 1 1 1 1 1
    ∷ row 1 1 1 1 1 1 1 1 1 1 1 1 1 1 1 1
    ∷ row 1 1 3 3 3 1 2 1 1 1 3 2 3 3 2 1
    ∷ row 1 1 3 1 3 1 2 1 1 1 3 1 3 1 2 1
    ∷ row 2 1 1 1 1 1 2 1 2 1 3 1 1 1 2 1
    ∷ row 2 1 1 1 1 1 2 1 2 1 3 1 1 1 2 1
    ∷ []

-- M-cycles where there is no condition, or it fails. At CB stands 2; the table after CB counts both bytes.
unfoldable pub cycles_not_taken : List (List ℕ)
cycles_not_taken =
    row 1 3 2 2 1 1 2 1 5 2 2 2 1 1 2 1
    ∷ row 1 3 2 2 1 1 2 1 3 2 2 2 1 1 2 1
    ∷ row 2 3 2 2 1 1 2 1 2 2 2 2 1 1 2 1
    ∷ row 2 3 2 2 3 3 3 1 2 2 2 2 1 1 2 1
    ∷ row 1 1 1 1 1 1 2 1 1 1 1 1 1 1 2 1
    ∷ row 1 1 1 1 1 1 2 1 1 1 1 1 1 1 2 1
    ∷ row 1 1 1 1 1 1 2 1 1 1 1 1 1 1 2 1
    ∷ row 2 2 2 2 2 2 1 2 1 1 1 1 1 1 2 1
    ∷ row 1 1 1 1 1 1 2 1 1 1 1 1 1 1 2 1
    ∷ row 1 1 1 1 1 1 2 1 1 1 1 1 1 1 2 1
    ∷ row 1 1 1 1 1 1 2 1 1 1 1 1 1 1 2 1
    ∷ row 1 1 1 1 1 1 2 1 1 1 1 1 1 1 2 1
    ∷ row 2 3 3 4 3 4 2 4 2 4 3 2 3 6 2 4
    ∷ row 2 3 3 1 3 4 2 4 2 4 3 1 3 1 2 4
    ∷ row 3 3 2 1 1 4 2 4 4 1 4 1 1 1 2 4
    ∷ row 3 3 2 1 1 4 2 4 3 2 4 1 1 1 2 4
    ∷ []

-- M-cycles where there is no condition, or it holds.
unfoldable pub cycles_taken : List (List ℕ)
cycles_taken =
    row 1 3 2 2 1 1 2 1 5 2 2 2 1 1 2 1
    ∷ row 1 3 2 2 1 1 2 1 3 2 2 2 1 1 2 1
    ∷ row 3 3 2 2 1 1 2 1 3 2 2 2 1 1 2 1
    ∷ row 3 3 2 2 3 3 3 1 3 2 2 2 1 1 2 1
    ∷ row 1 1 1 1 1 1 2 1 1 1 1 1 1 1 2 1
    ∷ row 1 1 1 1 1 1 2 1 1 1 1 1 1 1 2 1
    ∷ row 1 1 1 1 1 1 2 1 1 1 1 1 1 1 2 1
    ∷ row 2 2 2 2 2 2 1 2 1 1 1 1 1 1 2 1
    ∷ row 1 1 1 1 1 1 2 1 1 1 1 1 1 1 2 1
    ∷ row 1 1 1 1 1 1 2 1 1 1 1 1 1 1 2 1
    ∷ row 1 1 1 1 1 1 2 1 1 1 1 1 1 1 2 1
    ∷ row 1 1 1 1 1 1 2 1 1 1 1 1 1 1 2 1
    ∷ row 5 3 4 4 6 4 2 4 5 4 4 2 6 6 2 4
    ∷ row 5 3 4 1 6 4 2 4 5 4 4 1 6 1 2 4
    ∷ row 3 3 2 1 1 4 2 4 4 1 4 1 1 1 2 4
    ∷ row 3 3 2 1 1 4 2 4 3 2 4 1 1 1 2 4
    ∷ []

-- M-cycles after CB, both bytes counted.
unfoldable pub cycles_after_cb : List (List ℕ)
cycles_after_cb =
    row 2 2 2 2 2 2 4 2 2 2 2 2 2 2 4 2
    ∷ row 2 2 2 2 2 2 4 2 2 2 2 2 2 2 4 2
    ∷ row 2 2 2 2 2 2 4 2 2 2 2 2 2 2 4 2
    ∷ row 2 2 2 2 2 2 4 2 2 2 2 2 2 2 4 2
    ∷ row 2 2 2 2 2 2 3 2 2 2 2 2 2 2 3 2
    ∷ row 2 2 2 2 2 2 3 2 2 2 2 2 2 2 3 2
    ∷ row 2 2 2 2 2 2 3 2 2 2 2 2 2 2 3 2
    ∷ row 2 2 2 2 2 2 3 2 2 2 2 2 2 2 3 2
    ∷ row 2 2 2 2 2 2 4 2 2 2 2 2 2 2 4 2
    ∷ row 2 2 2 2 2 2 4 2 2 2 2 2 2 2 4 2
    ∷ row 2 2 2 2 2 2 4 2 2 2 2 2 2 2 4 2
    ∷ row 2 2 2 2 2 2 4 2 2 2 2 2 2 2 4 2
    ∷ row 2 2 2 2 2 2 4 2 2 2 2 2 2 2 4 2
    ∷ row 2 2 2 2 2 2 4 2 2 2 2 2 2 2 4 2
    ∷ row 2 2 2 2 2 2 4 2 2 2 2 2 2 2 4 2
    ∷ row 2 2 2 2 2 2 4 2 2 2 2 2 2 2 4 2
    ∷ []

-- Flags. CB itself changes none.
unfoldable pub flag_columns : List (List FlagColumn)
flag_columns =
    row keep keep keep keep Z0H- Z1H- keep 000C keep -0HC keep keep Z0H- Z1H- keep 000C
    ∷ row keep keep keep keep Z0H- Z1H- keep 000C keep -0HC keep keep Z0H- Z1H- keep 000C
    ∷ row keep keep keep keep Z0H- Z1H- keep Z-0C keep -0HC keep keep Z0H- Z1H- keep -11-
    ∷ row keep keep keep keep Z0H- Z1H- keep -001 keep -0HC keep keep Z0H- Z1H- keep -00C
    ∷ row keep keep keep keep keep keep keep keep keep keep keep keep keep keep keep keep
    ∷ row keep keep keep keep keep keep keep keep keep keep keep keep keep keep keep keep
    ∷ row keep keep keep keep keep keep keep keep keep keep keep keep keep keep keep keep
    ∷ row keep keep keep keep keep keep keep keep keep keep keep keep keep keep keep keep
    ∷ row Z0HC Z0HC Z0HC Z0HC Z0HC Z0HC Z0HC Z0HC Z0HC Z0HC Z0HC Z0HC Z0HC Z0HC Z0HC Z0HC
    ∷ row Z1HC Z1HC Z1HC Z1HC Z1HC Z1HC Z1HC Z1HC Z1HC Z1HC Z1HC Z1HC Z1HC Z1HC Z1HC Z1HC
    ∷ row Z010 Z010 Z010 Z010 Z010 Z010 Z010 Z010 Z000 Z000 Z000 Z000 Z000 Z000 Z000 Z000
    ∷ row Z000 Z000 Z000 Z000 Z000 Z000 Z000 Z000 Z1HC Z1HC Z1HC Z1HC Z1HC Z1HC Z1HC Z1HC
    ∷ row keep keep keep keep keep keep Z0HC keep keep keep keep keep keep keep Z0HC keep
    ∷ row keep keep keep keep keep keep Z1HC keep keep keep keep keep keep keep Z1HC keep
    ∷ row keep keep keep keep keep keep Z010 keep 00HC keep keep keep keep keep Z000 keep
    ∷ row keep ZNHC keep keep keep keep Z000 keep 00HC keep keep keep keep keep Z1HC keep
    ∷ []

-- Flags after CB.
unfoldable pub flag_columns_after_cb : List (List FlagColumn)
flag_columns_after_cb =
    row Z00C Z00C Z00C Z00C Z00C Z00C Z00C Z00C Z00C Z00C Z00C Z00C Z00C Z00C Z00C Z00C
    ∷ row Z00C Z00C Z00C Z00C Z00C Z00C Z00C Z00C Z00C Z00C Z00C Z00C Z00C Z00C Z00C Z00C
    ∷ row Z00C Z00C Z00C Z00C Z00C Z00C Z00C Z00C Z00C Z00C Z00C Z00C Z00C Z00C Z00C Z00C
    ∷ row Z000 Z000 Z000 Z000 Z000 Z000 Z000 Z000 Z00C Z00C Z00C Z00C Z00C Z00C Z00C Z00C
    ∷ row Z01- Z01- Z01- Z01- Z01- Z01- Z01- Z01- Z01- Z01- Z01- Z01- Z01- Z01- Z01- Z01-
    ∷ row Z01- Z01- Z01- Z01- Z01- Z01- Z01- Z01- Z01- Z01- Z01- Z01- Z01- Z01- Z01- Z01-
    ∷ row Z01- Z01- Z01- Z01- Z01- Z01- Z01- Z01- Z01- Z01- Z01- Z01- Z01- Z01- Z01- Z01-
    ∷ row Z01- Z01- Z01- Z01- Z01- Z01- Z01- Z01- Z01- Z01- Z01- Z01- Z01- Z01- Z01- Z01-
    ∷ row keep keep keep keep keep keep keep keep keep keep keep keep keep keep keep keep
    ∷ row keep keep keep keep keep keep keep keep keep keep keep keep keep keep keep keep
    ∷ row keep keep keep keep keep keep keep keep keep keep keep keep keep keep keep keep
    ∷ row keep keep keep keep keep keep keep keep keep keep keep keep keep keep keep keep
    ∷ row keep keep keep keep keep keep keep keep keep keep keep keep keep keep keep keep
    ∷ row keep keep keep keep keep keep keep keep keep keep keep keep keep keep keep keep
    ∷ row keep keep keep keep keep keep keep keep keep keep keep keep keep keep keep keep
    ∷ row keep keep keep keep keep keep keep keep keep keep keep keep keep keep keep keep
    ∷ []

-- Refusal 3: "opcode D3 DB DD E3 E4 EB EC ED F4 FC FD"
unfoldable pub illegal_opcodes : List ℕ
illegal_opcodes = 0xd3 ∷ 0xdb ∷ 0xdd ∷ 0xe3 ∷ 0xe4 ∷ 0xeb ∷ 0xec ∷ 0xed ∷ 0xf4 ∷ 0xfc ∷ 0xfd ∷ []

abbrev pub one_of : List ℕ → ℕ → Bool
one_of [] x = false
one_of (y ∷ ys) x = if eqb x y then true else one_of ys x

-- What is published of an opcode and the byte after it, which counts after CB alone.

abbrev pub is_cb : ℕ → Bool
is_cb opcode = eqb opcode 0xcb

unfoldable pub published_bytes : ℕ → ℕ
published_bytes opcode = entry 1 bytes opcode

-- where the condition, if there is one, holds or not
unfoldable pub published_cycles : Bool → ℕ → ℕ → ℕ
published_cycles taken opcode second =
    if is_cb opcode then entry 2 cycles_after_cb second
    else (if taken then entry 1 cycles_taken opcode else entry 1 cycles_not_taken opcode)

unfoldable pub published_flags : ℕ → ℕ → FlagColumn
published_flags opcode second =
    if is_cb opcode then entry keep flag_columns_after_cb second else entry keep flag_columns opcode
