-- One byte of a form more, and its end: what is left to be written is what was to be written.
use mathlib.Core.Path.{◌≡◌, sym, ap, subst, ◌∙◌}
use mathlib.Core.List.{List, [], ◌++◌}
use Prim.Native.Nat.{ℕ, ◌+◌, ◌<◌, ◌≤◌}
use lib.ListN.{length, drop, get_or}
use Rattle.text.specs.declared.page.Page.{Page}
use Rattle.text.specs.Put.{Put}
use Rattle.text.specs.Form.{meant, takes, filled_from}
use Rattle.text.proofs.lines.Found.{here, over}
use Rattle.text.proofs.page.Written.{Leads, goes_on, done}

module _ (form values word : List ℕ) (k i : ℕ) {first p : Page} {all : List ℕ} (so_far : Leads first all p (filled_from k (drop i form) values word)) where
  next : i < length form → {took : ℕ} → took ≡ takes (get_or form i 0) → filled_from k (drop i form) values word ≡ meant (get_or form i 0) (get_or values k 0) word ++ filled_from (k + took) (drop (i + 1) form) values word
  unfolding filled_from
  next more counted =
      ap (λ (l : List ℕ). filled_from k l values word) (here form i more)
      ∙ ap (λ (n : ℕ). meant (get_or form i 0) (get_or values k 0) word ++ filled_from (k + n) (drop (i + 1) form) values word) (sym counted)

  pub one_byte : i < length form → {took : ℕ} → took ≡ takes (get_or form i 0) → {q : Page} → Put p q (meant (get_or form i 0) (get_or values k 0) word) → Leads first all q (filled_from (k + took) (drop (i + 1) form) values word)
  one_byte more counted byte = goes_on (subst (λ (l : List ℕ). Leads first all p l) (next more counted) so_far) byte

  none : length form ≤ i → filled_from k (drop i form) values word ≡ []
  unfolding filled_from
  none none_left = ap (λ (l : List ℕ). filled_from k l values word) (over form i none_left)

  pub no_byte : length form ≤ i → Put first p all
  no_byte none_left = done (subst (λ (l : List ℕ). Leads first all p l) (none none_left) so_far)
