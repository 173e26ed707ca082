-- What the core answers to a record of a step or a run, what the record says of it, and that the two are the same.
use Rattle.std.specs.Prelude.{ℕ, Bool, ◌&&◌, List, replicate, ◌==◌, if◌then◌else◌, bytes_eq}
use Rattle.blocks.specs.Bytes.{word_at}
use Rattle.library.specs.Left.{Left, left, run_blocks}
use Rattle.records.specs.Bytes.{part, patched}
use Rattle.records.specs.Record.{budget_at, state_at, after_at, answer_at, bytes_at, kind_of, changed, changes_at, memory_from}

abbrev pub budget_of : ℕ → ℕ → ℕ
budget_of kind budget = if kind == 0 then 1 else budget

-- what the core answers and leaves in memory of so many bytes
unfoldable pub asked : List ℕ → ℕ → Left
asked r size = run_blocks (budget_of (kind_of r) (word_at r budget_at)) (part r state_at after_at) (memory_from r bytes_at size) (replicate 24 0)

-- what the record says of it
unfoldable pub told : List ℕ → ℕ → Left
told r size = left (word_at r answer_at) (part r after_at answer_at) (patched r (changes_at r) (changed r) (memory_from r bytes_at size)) (part r answer_at bytes_at)

abbrev pub same_left : Left → Left → Bool
same_left a b = a.number == b.number && (bytes_eq a.state b.state && (bytes_eq a.memory b.memory && bytes_eq a.answer b.answer))
