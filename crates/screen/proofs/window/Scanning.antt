-- One address of a scan, for any test.
use Rattle.std.proofs.Common.{if◌then◌else◌}
use mathlib.Core.Path.{◌≡◌, refl, sym, ap, ap₂, ◌∙◌}
use mathlib.Core.Bool.{Bool, true, false, not, ◌&&◌}
use mathlib.Core.List.{List}
use Prim.Native.Nat.{ℕ, zero, suc, ◌+◌, ◌-◌, ◌≤◌, ◌<◌}
use native.Mathlib.Omega.{arith}
use lib.Dec.{eqb}
use lib.ListN.{length, get_or}
use borrow.Author.Tests.{le-leb, eq-eqb, ne_eqb}
use Rattle.sm83.specs.declared.Addr.{Addr}
use Rattle.routine.specs.declared.ScreenRefusal.{ScreenRefusal}
use Rattle.routine.specs.Verdict.{Verdict}
use Rattle.std.specs.Prelude.{Ok, Err}
use Rattle.routine.specs.declared.Finding.TheVariants.{At}
use Rattle.sm83.specs.State.{addr}
use Rattle.routine.specs.Screen.{refused_at, is_marked, scan}

scan_one : (r : ScreenRefusal) (marked test : ℕ → Bool) (at n to left : ℕ) → to ≡ at + 1 → n ≡ left + 1 → scan r marked test at n ≡ (if marked at && not (test at) then refused_at r at else scan r marked test to left)
unfolding scan
scan_one r marked test at zero to left e h = absurd (omega arith)
scan_one r marked test at (suc n) to left e h =
    let further : suc at ≡ to = omega arith in
    let fewer : n ≡ left = omega arith in
    ap (λ (v : Verdict). if marked at && not (test at) then refused_at r at else v) (ap₂ (scan r marked test) further fewer)

module _ (r : ScreenRefusal) (test : ℕ → Bool) (first : ℕ) (marks : List ℕ) where
  abbrev marked : ℕ → Bool
  marked = is_marked marks first

  -- the scan of the addresses from an index on
  abbrev pub scan_from : ℕ → Verdict
  scan_from i = scan r marked test (first + i) (length marks - i)

  pub from_first : scan r marked test first (length marks) ≡ scan_from 0
  from_first = ap₂ (scan r marked test) (omega arith) (omega arith)

  mark_at : (i : ℕ) → marked (first + i) ≡ eqb (get_or marks i 0) 1
  mark_at i = rw (le-leb first (first + i) (omega arith)) (ap (λ (j : ℕ). eqb (get_or marks j 0) 1) (omega arith))

  module _ (i : ℕ) (low : i < length marks) where
    one : scan_from i ≡ (if eqb (get_or marks i 0) 1 && not (test (first + i)) then refused_at r (first + i) else scan_from (i + 1))
    one =
        scan_one r marked test (first + i) (length marks - i) (first + (i + 1)) (length marks - (i + 1)) (omega arith) (omega arith)
        ∙ ap (λ (b : Bool). if b && not (test (first + i)) then refused_at r (first + i) else scan_from (i + 1)) (mark_at i)

    pub unmarked : (get_or marks i 0 ≡ 1 → ⊥) → scan_from i ≡ scan_from (i + 1)
    unmarked none = one ∙ rw (ne_eqb _ _ none)

    -- with what the code learns of the test there
    module _ (here : Addr) (there : here ≡ addr (first + i)) (passed : Bool) (told : passed ≡ test here.0) where
      passed_there : test (first + i) ≡ passed
      passed_there = sym (told ∙ ap (λ (h : Addr). test h.0) there)

      pub passing : not passed ≡ false → scan_from i ≡ scan_from (i + 1)
      passing ok = one ∙ by (eqb (get_or marks i 0) 1)
        where
          by : (b : Bool) → (if b && not (test (first + i)) then refused_at r (first + i) else scan_from (i + 1)) ≡ scan_from (i + 1)
          by true = rw (passed_there, ok)
          by false = refl

      pub failing : get_or marks i 0 ≡ 1 → not passed ≡ true → scan_from i ≡ Err (At r here)
      failing marked-here bad = one ∙ rw (eq-eqb _ _ marked-here, passed_there, bad) (ap {B = Verdict} (λ (h : Addr). Err (At r h)) (sym there))

  pub none_left : (i : ℕ) → length marks ≤ i → scan_from i ≡ Ok tt
  unfolding scan
  none_left i high = rw nothing
    where
      nothing : length marks - i ≡ 0
      nothing = omega arith
