-- A number, a state block, memory and an answer block are those that a record of a step or a run says.
use Rattle.std.specs.Prelude.{ℕ, Bool, ◌&&◌, List, ◌==◌, bytes_eq}
use Rattle.blocks.specs.Bytes.{word_at}
use Rattle.records.specs.Bytes.{part}
use Rattle.records.specs.Record.{after_at, answer_at, bytes_at}

abbrev pub left_as_told : List ℕ → ℕ → List ℕ → List ℕ → List ℕ → List ℕ → Bool
left_as_told r number state memory want answer = number == word_at r answer_at && (bytes_eq state (part r after_at answer_at) && (bytes_eq memory want && bytes_eq answer (part r answer_at bytes_at)))
