-- "The screen tests 1, 4, 5, 6 in this order": for every input, which of them refuses, and that the marks stay as they came.
use mathlib.Core.Path.{◌≡◌, refl, ap, sym, subst, ◌∙◌}
use mathlib.Core.Bool.{Bool, true, false}
use mathlib.Core.Logic.{◌⊎◌, inl, inr, ◌≢◌}
use mathlib.Core.List.{List}
use Prim.Native.Nat.{ℕ, suc, ◌+◌, ◌-◌, ◌≤◌, ◌<◌}
use native.Mathlib.Omega.{arith}
use lib.Dec.{eqb, ltb}
use lib.ListN.{length}
use borrow.Author.Tests.{ltb-true, ltb-false, eqb-true, eqb-false, lt-ltb, le-ltb, eq-eqb, ne_eqb}
use Rattle.routine.specs.declared.ScreenRefusal.{ScreenRefusal}
use Rattle.routine.specs.declared.ScreenRefusal.TheVariants.{MemoryLength, WindowReversed, WindowTooLong, MarksLength}
use Rattle.std.specs.Prelude.{Err}
use Rattle.routine.specs.declared.Finding.TheVariants.{BeforeWalk}
use Rattle.routine.specs.Rules.{Rules}
use Rattle.routine.specs.Screen.{verdict, Screened, marks_after, untouched, longest_window, screen}
use Rattle.routine.proofs.Findings.{Shows}
use Rattle.routine.proofs.Exactly.{verdict_shows}

-- from first to last, both in the window
abbrev pub window : ℕ → ℕ → ℕ
window first last = suc (last - first)

module _ (m : List ℕ) (first last : ℕ) (marks : List ℕ) where
  pub data Early : ScreenRefusal → Type 0 where
    -- 1: "memory is not 65,536 bytes long"
    wrong_memory : length m ≢ 65536 → Early MemoryLength
    -- 4: "window's first address above its last"
    reversed : length m ≡ 65536 → last < first → Early WindowReversed
    -- 5: "window longer than 4,096 bytes", which is longest_window
    too_long : length m ≡ 65536 → first ≤ last → longest_window < window first last → Early WindowTooLong
    -- 6: "marks slice not as long as the window"
    wrong_marks : length m ≡ 65536 → first ≤ last → window first last ≤ longest_window → length marks ≢ window first last → Early MarksLength

  -- none of them refuses
  pub record Admitted : Type 0 where
    pub memory : length m ≡ 65536
    pub order : first ≤ last
    pub size : window first last ≤ longest_window
    pub marks_size : length marks ≡ window first last

  pub early_or_admitted : ((r : ScreenRefusal) × Early r) ⊎ Admitted
  early_or_admitted = memory_test (eqb (length m) 65536) refl
    where
      marks_test : length m ≡ 65536 → first ≤ last → window first last ≤ longest_window → (b : Bool) → eqb (length marks) (window first last) ≡ b → ((r : ScreenRefusal) × Early r) ⊎ Admitted
      marks_test k o z true e = inr (record { memory = k; order = o; size = z; marks_size = eqb-true _ _ e })
      marks_test k o z false e = inl (MarksLength, wrong_marks k o z (eqb-false _ _ e))

      size_test : length m ≡ 65536 → first ≤ last → (b : Bool) → ltb longest_window (window first last) ≡ b → ((r : ScreenRefusal) × Early r) ⊎ Admitted
      size_test k o true e = inl (WindowTooLong, too_long k o (ltb-true longest_window _ e))
      size_test k o false e = marks_test k o (ltb-false longest_window _ e) (eqb (length marks) (window first last)) refl

      order_test : length m ≡ 65536 → (b : Bool) → ltb last first ≡ b → ((r : ScreenRefusal) × Early r) ⊎ Admitted
      order_test k true e = inl (WindowReversed, reversed k (ltb-true _ _ e))
      order_test k false e = size_test k (ltb-false _ _ e) (ltb longest_window (window first last)) refl

      memory_test : (b : Bool) → eqb (length m) 65536 ≡ b → ((r : ScreenRefusal) × Early r) ⊎ Admitted
      memory_test true e = order_test (eqb-true _ _ e) (ltb last first) refl
      memory_test false e = inl (MemoryLength, wrong_memory (eqb-false _ _ e))

  -- the number, and the marks as they came
  pub refuses : {r : ScreenRefusal} → Early r → screen m first last marks ≡ untouched r marks
  unfolding screen
  refuses (wrong_memory k) = simp (ne_eqb _ _ k)
  refuses (reversed k o) = simp (eq-eqb _ _ k, lt-ltb _ _ o)
  refuses (too_long k o z) = simp (eq-eqb _ _ k, le-ltb _ _ o, lt-ltb _ _ z)
  refuses (wrong_marks k o z w) = simp (eq-eqb _ _ k, le-ltb _ _ o, le-ltb _ _ z, ne_eqb _ _ w)

  -- else the verdict on the window
  pub admits : Admitted → screen m first last marks ≡ record { verdict = verdict m first (window first last); marks = marks_after (verdict m first (window first last)) m first (window first last) }
  unfolding screen
  admits ok = simp (eq-eqb _ _ ok.memory, le-ltb _ _ ok.order, le-ltb _ _ ok.size, eq-eqb _ _ ok.marks_size)

  -- and exactly then: a refusal without an address is one of the four
  pub refused : (r : ScreenRefusal) → (screen m first last marks).verdict ≡ Err (BeforeWalk r) → Early r
  refused r e = by early_or_admitted
    where
      same : (q : ScreenRefusal) → (screen m first last marks).verdict ≡ Err (BeforeWalk q) → q ≡ r
      same q f = cc

      never : Admitted → verdict m first (window first last) ≡ Err (BeforeWalk r)
      never ok = sym (ap (λ (s : Screened). s.verdict) (admits ok)) ∙ e

      by : ((q : ScreenRefusal) × Early q) ⊎ Admitted → Early r
      by (inl early) = subst Early (same early.0 (ap (λ (s : Screened). s.verdict) (refuses early.1))) early.1
      by (inr ok) = absurd (subst (Shows m first (first + window first last) (Rules m first (first + window first last))) (never ok) (verdict_shows m first (window first last)))

  -- "Lengths 4,096 and 4,097 either side of 5": the longest window, and one byte more
  pub never_5 : window first last ≡ longest_window → (screen m first last marks).verdict ≡ Err (BeforeWalk WindowTooLong) → ⊥
  never_5 w e = too_short (refused WindowTooLong e)
    where
      too_short : Early WindowTooLong → ⊥
      too_short (too_long k o z) = omega arith

  pub always_5 : length m ≡ 65536 → first ≤ last → window first last ≡ longest_window + 1 → screen m first last marks ≡ untouched WindowTooLong marks
  always_5 k o w = refuses (too_long k o (omega arith))
