-- One turn of the loop that reads a number, a mistake, and its end.
use mathlib.Core.Path.{◌≡◌, sym, ap, ◌∙◌}
use mathlib.Core.List.{List}
use Prim.Native.Nat.{ℕ, ◌+◌, ◌<◌, ◌≤◌}
use lib.ListN.{length, drop, get_or}
use Rattle.std.specs.Prelude.{Result, Ok, Err}
use Rattle.text.specs.declared.number.Fault.{Fault}
use Rattle.text.specs.declared.number.Reading.{Reading}
use Rattle.text.specs.Number.{going_on, read_byte, reads, ended, read_on}
use Rattle.text.proofs.lines.Found.{here, over}

-- what has been read in front of i, and the bytes from i on, come to what the whole text comes to
module _ (before r : Reading) (text : List ℕ) (i : ℕ) (so_far : reads r (drop i text) ≡ reads before text) where
  next : i < length text → {read : Result Reading Fault} → read ≡ read_byte r (get_or text i 0) → going_on (λ s. reads s (drop (i + 1) text)) read ≡ reads before text
  unfolding reads
  next more said = ap (going_on (λ s. reads s (drop (i + 1) text))) said ∙ sym (ap (reads r) (here text i more)) ∙ so_far

  pub goes_on : i < length text → {s : Reading} → Ok s ≡ read_byte r (get_or text i 0) → reads s (drop (i + 1) text) ≡ reads before text
  goes_on more said = next more said

  pub stops : i < length text → {fault : Fault} → Err fault ≡ read_byte r (get_or text i 0) → Err fault ≡ read_on before text
  stops more said = ap (going_on ended) (next more said)

  pub ends : length text ≤ i → ended r ≡ read_on before text
  unfolding reads
  ends none_left = ap (going_on ended) (sym (ap (reads r) (over text i none_left)) ∙ so_far)
