-- What a record adds to the counts of what a sample covers.
use Rattle.std.specs.Prelude.{ℕ, ◌+◌, ◌%◌, ◌^◌, Bool, not, ◌&&◌, ◌||◌, List, length, ◌==◌, nat_eq, nat_le, nat_lt, slice_index, slice_set, if◌then◌else◌}
use Rattle.sm83.specs.Basics.{next}
use Rattle.definition.specs.Bus.{byte_at, pending}
use Rattle.outcome.specs.Interrupts.{is_pending}
use Rattle.blocks.specs.Bytes.{word_at}
use Rattle.records.specs.Bytes.{part}
use Rattle.records.specs.Record.{state_at, after_at, answer_at, bytes_at, verdict_at, marks_at, kind_of, memory_length, changes_at, memory_from}

-- Where the counts stand: opcodes from 0 on, after CB from 256 on, then 256 places for each of the others.

abbrev pub kinds : ℕ
kinds = 512

abbrev pub halts : ℕ
halts = 768

abbrev pub outcomes : ℕ
outcomes = 1024

abbrev pub verdicts : ℕ
verdicts = 1280

abbrev pub places : ℕ
places = 1536

-- a place past the end counts nothing
abbrev pub counted : ℕ → List ℕ → List ℕ
counted place counts = slice_set counts place ((slice_index counts place + 1) % 2 ^ 32)

-- In the state block: PC, IME, the halt mode (3 is HaltBug), stopped, HDMA running.

abbrev pub pc_at : ℕ
pc_at = 10

abbrev pub ime_at : ℕ
ime_at = 12

abbrev pub halt_at : ℕ
halt_at = 14

abbrev pub stopped_at : ℕ
stopped_at = 15

abbrev pub hdma_at : ℕ
hdma_at = 16

abbrev pub is_halted : List ℕ → Bool
is_halted state = byte_at state halt_at == 1 || byte_at state halt_at == 2

-- a step comes to its fetch: not stopped, HDMA not running, a halt that ends, and no interrupt that is taken (points 1 to 4)
abbrev pub fetches : List ℕ → Bool → Bool
fetches state waiting =
    not (byte_at state stopped_at == 1 || byte_at state hdma_at == 1) && ((not (is_halted state) || waiting) && not (byte_at state ime_at == 1 && waiting))

-- under HaltBug PC goes back after the first fetch (point 6)
abbrev pub second_at : List ℕ → ℕ
second_at state = if byte_at state halt_at == 3 then word_at state pc_at else next (word_at state pc_at)

-- the place of the opcode that a step fetches; past the end if it fetches none
unfoldable pub opcode_of : List ℕ → List ℕ → ℕ
opcode_of state m =
    if fetches state (is_pending (pending m)) then
    (if nat_eq (byte_at m (word_at state pc_at)) 0xcb then 256 + byte_at m (second_at state) else byte_at m (word_at state pc_at)) else places

-- CB is an opcode of the first table, too
abbrev pub prefix_noted : ℕ → List ℕ → List ℕ
prefix_noted place counts = if nat_le 256 place && nat_lt place places then counted 0xcb counts else counts

abbrev pub fetch_noted : List ℕ → ℕ → List ℕ → List ℕ
fetch_noted r size counts = let place : ℕ = opcode_of (part r state_at after_at) (memory_from r bytes_at size) in prefix_noted place (counted place counts)

abbrev pub opcode_noted : List ℕ → List ℕ → List ℕ
opcode_noted r counts = if memory_length r == 65536 then fetch_noted r (memory_length r) counts else counts

abbrev pub run_noted : List ℕ → List ℕ → List ℕ
run_noted r counts =
    if nat_lt (length r) (changes_at r) then counts
    else (if nat_eq (kind_of r) 0 then opcode_noted r (counted (outcomes + byte_at r answer_at) (counted (halts + byte_at r (state_at + halt_at)) counts))
    else counted (outcomes + byte_at r answer_at) (counted (halts + byte_at r (state_at + halt_at)) counts))

unfoldable pub noted : List ℕ → List ℕ → List ℕ
noted r counts =
    if nat_lt (length r) marks_at then counts
    else (if nat_eq (kind_of r) 2 then counted (verdicts + byte_at r verdict_at) (counted (kinds + kind_of r) counts)
    else run_noted r (counted (kinds + kind_of r) counts))
