-- What it means that the core agrees with a record: what it answers and leaves is, value by value, what the record says.
use Rattle.std.proofs.Common.{◌≡◌, ℕ, true, eqb, List, length, ◌∙◌, ap₂, eqb-true}
use Rattle.std.specs.Prelude.{bytes_eq}
use Rattle.library.specs.Left.{Left, left}
use Rattle.records.specs.Record.{memory_length}
use Rattle.replay.specs.Told.{asked, told, same_left}
use Rattle.replay.specs.Replay.{run_size, agrees_run}
use lib.Pointwise.{bytes_decides}
use Rattle.std.proofs.lemmas.Bool.{and_parts}
use Rattle.replay.proofs.windows.Windowed.{chosen}

same_left_lem : (a b : Left) → same_left a b ≡ true → a ≡ b
same_left_lem a b h =
    let numbers = and_parts (eqb a.number b.number) _ h in
    let states = and_parts (bytes_eq a.state b.state) _ numbers.1 in
    let others = and_parts (bytes_eq a.memory b.memory) _ states.1 in
    ap₂ (λ (n : ℕ) (s : List ℕ). left n s a.memory a.answer) (eqb-true _ _ numbers.0) ((bytes_decides _ _).0 states.0)
    ∙ ap₂ (λ (m w : List ℕ). left b.number b.state m w) ((bytes_decides _ _).0 others.0) ((bytes_decides _ _).0 others.1)

pub run_means : (r : List ℕ) → agrees_run r ≡ true → asked r (memory_length r) ≡ told r (memory_length r)
unfolding agrees_run
run_means r h = same_left_lem (asked r (memory_length r)) (told r (memory_length r)) (chosen (eqb (length r) (run_size r)) (same_left (asked r (memory_length r)) (told r (memory_length r))) h)
