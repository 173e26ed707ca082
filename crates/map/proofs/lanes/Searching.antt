-- The search one lane at a time; and that a lane that is found holds no arrow that shares a row with the new one.
use Rattle.std.proofs.Common.{◌≡◌, ℕ, zero, suc, ◌+◌, ◌≤◌, ◌<◌, Bool, true, false, Option, Some, None, MatchOption, refl, sym, ap, ◌∙◌, arith}
use native.Mathlib.Decide.{ℕ_discrete}
use Rattle.map.specs.Lanes.{lowest_free}

module _ (taken : ℕ → Bool) where
  -- what is found is free: two arrows that share a row never share a lane
  pub found_is_free : (k n found : ℕ) → lowest_free taken k n ≡ Some found → taken found ≡ false
  unfolding lowest_free
  found_is_free k zero found e = cc
  found_is_free k (suc n) found e = by (taken k) refl (found_is_free (suc k) n found)
    where
      by : (b : Bool) → taken k ≡ b → (lowest_free taken (suc k) n ≡ Some found → taken found ≡ false) → taken found ≡ false
      by true t rest =
          let same : lowest_free taken k (suc n) ≡ lowest_free taken (suc k) n = rw t in
          rest (sym same ∙ e)
      by false t rest =
          let same : lowest_free taken k (suc n) ≡ Some k = rw t in
          let here : k ≡ found = cc in
          ap taken (sym here) ∙ t

  abbrev Taken : ℕ → ℕ → Type 0
  Taken k end = (j : ℕ) → k ≤ j → j < end → taken j ≡ true

  none_free : (k n end : ℕ) → end ≡ k + n → Taken k end → None ≡ lowest_free taken k n
  unfolding lowest_free
  none_free k zero end e all = refl
  none_free k (suc n) end e all = rw (all k (omega arith) (omega arith)) (none_free (suc k) n end (omega arith) (λ j low high. all j (omega arith) high))

  one_free : (k n i : ℕ) → k ≤ i → i < k + n → taken i ≡ false → Taken k i → Some i ≡ lowest_free taken k n
  unfolding lowest_free
  one_free k zero i low high free before = absurd (omega arith)
  one_free k (suc n) i low high free before = by (ℕ_discrete k i) (one_free (suc k) n i)
    where
      by : Dec (k ≡ i) → (suc k ≤ i → i < suc k + n → taken i ≡ false → Taken (suc k) i → Some i ≡ lowest_free taken (suc k) n) → Some i ≡ lowest_free taken k (suc n)
      by (yes e) rest =
          let here : taken k ≡ false = ap taken e ∙ free in
          rw here (ap Some (sym e))
      by (no other) rest =
          let passed : taken k ≡ true = before k (omega arith) (omega arith) in
          rw passed (rest (omega arith) (omega arith) free (λ j from to. before j (omega arith) to))

  -- as a search over the numbers below an end tells it
  pub first_free : (count : ℕ) (r : Option ℕ) → MatchOption r (Taken 0 count) (λ i. (0 ≤ i) × (i < count) × (taken i ≡ false) × Taken 0 i) → r ≡ lowest_free taken 0 count
  first_free count None all = none_free 0 count count (omega arith) all
  first_free count (Some i) h = one_free 0 count i h.0 (omega (arith, h.1)) h.2 h.3
