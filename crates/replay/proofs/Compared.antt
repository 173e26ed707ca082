-- What the callees of a comparison ensure, put together: one law over plain variables.
use Rattle.std.proofs.Common.{◌≡◌, ℕ, ◌+◌, ◌*◌, Bool, List, replicate, ◌∙◌, ap₂}
use Rattle.blocks.specs.Bytes.{word_at}
use Rattle.library.specs.Left.{left, run_blocks}
use Rattle.records.specs.Bytes.{part, patched}
use Rattle.replay.specs.AsTold.{left_as_told}
use Rattle.records.specs.Record.{budget_at, state_at, after_at, answer_at, bytes_at, kind_of, listed, changed, memory_from}
use Rattle.replay.specs.Told.{budget_of, asked, told, same_left}

pub run_compared : (r : List ℕ) (size size' n count kind budget : ℕ) (state mem want want' : List ℕ) (number : ℕ) (state' mem' answer' : List ℕ) (b : Bool) → n ≡ listed r → count ≡ changed r → mem ≡ memory_from r bytes_at size → want ≡ memory_from r bytes_at size' → want' ≡ patched r (bytes_at + 3 * n) count want → state ≡ part r state_at after_at → budget ≡ word_at r budget_at → kind ≡ kind_of r → left number state' mem' answer' ≡ run_blocks (budget_of kind budget) state mem (replicate 24 0) → b ≡ left_as_told r number state' mem' want' answer' → b ≡ same_left (asked r size) (told r size')
unfolding asked told
run_compared r size size' n count kind budget state mem want want' number state' mem' answer' b listing changing laid laid' patch copy budgeted kinded ran same-so =
    let so : left number state' mem' answer' ≡ asked r size = ran ∙ simp (copy, laid, budgeted, kinded) in
    let told-so : left (word_at r answer_at) (part r after_at answer_at) want' (part r answer_at bytes_at) ≡ told r size' = simp (patch, laid', listing, changing) in
    same-so ∙ ap₂ same_left so told-so
