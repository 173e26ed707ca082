-- One turn of the loop that writes a decimal number: the digit at the scale, and the digits below it.
use mathlib.Core.Path.{◌≡◌, sym, ap, subst, ◌∙◌}
use mathlib.Core.List.{List}
use Prim.Native.Nat.{ℕ, zero, suc, ◌/◌, ◌^◌, ◌<◌, ◌≤◌}
use native.Mathlib.Nat.{pow-suc, mul-div_cancel}
use native.Mathlib.Omega.{arith}
use Rattle.text.specs.declared.page.Page.{Page}
use Rattle.text.specs.Put.{Put}
use Rattle.text.specs.Digits.{digit_at, digits_below}
use Rattle.text.proofs.page.Written.{Leads, goes_on, done}

tenth : (k : ℕ) → 10 ^ suc k / 10 ≡ 10 ^ k
tenth k = ap (λ (n : ℕ). n / 10) (pow-suc 10 k) ∙ mul-div_cancel (10 ^ k) (omega arith)

power : (k : ℕ) → 0 < 10 ^ k
power zero = omega arith
power (suc k) = omega (arith, power k, pow-suc 10 k)

-- the scale of the first of the places that are left, where `below` more come after it
module _ (below : ℕ) {left scale : ℕ} (some : left ≡ suc below) (is : scale ≡ 10 ^ left / 10) where
  at_first : scale ≡ 10 ^ below
  at_first = is ∙ ap (λ (j : ℕ). 10 ^ j / 10) some ∙ tenth below

  pub positive : 0 < scale
  positive = subst (λ (n : ℕ). 0 < n) (sym at_first) (power below)

  pub next_scale : scale / 10 ≡ 10 ^ below / 10
  next_scale = ap (λ (n : ℕ). n / 10) at_first

  pub one_digit : (n : ℕ) {first p q : Page} {all : List ℕ} → Leads first all p (digits_below left n) → Put p q (digit_at n scale) → Leads first all q (digits_below below n)
  unfolding digits_below
  one_digit n {first} {p} {q} {all} so_far digit =
      goes_on (subst (λ (j : ℕ). Leads first all p (digits_below j n)) some so_far) (subst (λ (s : ℕ). Put p q (digit_at n s)) at_first digit)

pub no_digit : (left n : ℕ) {first p : Page} {all : List ℕ} → left ≤ 0 → Leads first all p (digits_below left n) → Put first p all
unfolding digits_below
no_digit zero n none so_far = done so_far
no_digit (suc k) n none so_far = absurd (omega arith)
