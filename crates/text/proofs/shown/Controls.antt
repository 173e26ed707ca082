-- One byte of a word more, and its end: what is left to be written is what was to be written.
use mathlib.Core.Path.{◌≡◌, ap, subst}
use mathlib.Core.List.{List, [], ◌++◌}
use Prim.Native.Nat.{ℕ, ◌+◌, ◌<◌, ◌≤◌}
use lib.ListN.{length, drop, get_or}
use Rattle.text.specs.declared.page.Page.{Page}
use Rattle.text.specs.Put.{Put}
use Rattle.text.specs.Shown.{shown_byte, shown_from}
use Rattle.text.proofs.lines.Found.{here, over}
use Rattle.text.proofs.page.Written.{Leads, goes_on, done}

module _ (word : List ℕ) (before i : ℕ) {first p : Page} {all : List ℕ} (so_far : Leads first all p (shown_from before (drop i word))) where
  next : i < length word → shown_from before (drop i word) ≡ shown_byte before (get_or word i 0) ++ shown_from (get_or word i 0) (drop (i + 1) word)
  unfolding shown_from
  next more = ap (shown_from before) (here word i more)

  pub one_byte : i < length word → {q : Page} → Put p q (shown_byte before (get_or word i 0)) → Leads first all q (shown_from (get_or word i 0) (drop (i + 1) word))
  one_byte more byte = goes_on (subst (λ (l : List ℕ). Leads first all p l) (next more) so_far) byte

  none : length word ≤ i → shown_from before (drop i word) ≡ []
  unfolding shown_from
  none none_left = ap (shown_from before) (over word i none_left)

  pub no_byte : length word ≤ i → Put first p all
  no_byte none_left = done (subst (λ (l : List ℕ). Leads first all p l) (none none_left) so_far)
