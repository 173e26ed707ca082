-- The state block as power-on leaves it: laws of `powered_on` over plain variables.
use Rattle.std.proofs.Common.{if◌then◌else◌}
use mathlib.Core.Path.{◌≡◌, sym, ap, ◌∙◌}
use mathlib.Core.Bool.{Bool, true, false, ◌&&◌}
use mathlib.Core.List.{List, [], ◌∷◌, ◌++◌}
use Prim.Native.Nat.{ℕ, suc, ◌+◌, ◌≤◌}
use native.Mathlib.Nat.{zero-add, add-zero, add-suc, suc-add}
use native.Mathlib.Omega.{arith}
use lib.Dec.{eqb}
use lib.ListN.{length, drop, set}
use lib.Seq.{sets, sets-eq}
use borrow.Author.Tests.{eq-eqb, ne_eqb}
use Rattle.sm83.specs.declared.Cpu.{Cpu}
use Rattle.blocks.specs.Bytes.{filled}
use Rattle.blocks.specs.StateBlock.{state_fields, state_bytes}
use Rattle.blocks.proofs.bytes.Filled.{at_length}
use Rattle.library.specs.PoweredOn.{LeftByPowerOn, left_by_power_on, powered_on, known, reserved_zeros, whole_fields, state_of_model}

-- stores that go on where others ended
joined : (l : List ℕ) (i : ℕ) (vs ws : List ℕ) → sets (sets l i vs) (i + length vs) ws ≡ sets l i (vs ++ ws)
joined l i [] ws = ap (λ (k : ℕ). sets l k ws) (add-zero i)
joined l i (v ∷ vs) ws =
    ap (λ (k : ℕ). sets (sets (set l i v) (suc i) vs) k ws) (add-suc i (length vs) ∙ sym (suc-add i (length vs))) ∙ joined (set l i v) (suc i) vs ws

and_then : (l vs ws : List ℕ) {mid after : List ℕ} → mid ≡ sets l 0 vs → after ≡ sets mid (length vs) ws → after ≡ sets l 0 (vs ++ ws)
and_then l vs ws {mid} first second =
    second ∙ ap (λ (m : List ℕ). sets m (length vs) ws) first ∙ ap (λ (k : ℕ). sets (sets l 0 vs) k ws) (sym (zero-add (length vs))) ∙ joined l 0 vs ws

-- stores from the front on a block of the right length
filling : (size : ℕ) (bytes block : List ℕ) → length bytes ≤ size → length block ≡ size → sets block 0 bytes ≡ filled size bytes block
filling size bytes block fits same =
    sets-eq bytes block 0 (omega arith) ∙ ap (λ (k : ℕ). bytes ++ drop k block) (zero-add (length bytes)) ∙ sym (at_length size bytes block same)

module _ (model : ℕ) (state : List ℕ) where
  -- by the two tests
  abbrev by_tests : Bool → LeftByPowerOn
  by_tests t = if t then left_by_power_on 0 (filled 24 (whole_fields (state_of_model model)) state) else left_by_power_on 255 state

  pub unknown_model : known model ≡ false → left_by_power_on 255 state ≡ powered_on model state
  unfolding powered_on
  unknown_model e = sym (ap (λ (t : Bool). by_tests (t && eqb (length state) 24)) e)

  pub wrong_length : known model ≡ true → (length state ≡ 24 → ⊥) → left_by_power_on 255 state ≡ powered_on model state
  unfolding powered_on
  wrong_length e h = sym (ap (λ (t : Bool). by_tests (t && eqb (length state) 24)) e ∙ ap by_tests (ne_eqb (length state) 24 h))

  pub powered : (cpu : Cpu) (mid after : List ℕ) → known model ≡ true → length state ≡ 24 → cpu ≡ state_of_model model → mid ≡ state_bytes cpu state → after ≡ sets mid 18 reserved_zeros → left_by_power_on 0 after ≡ powered_on model state
  unfolding powered_on
  powered cpu mid after e h is_state written cleared =
      let whole : after ≡ sets state 0 (whole_fields cpu) = and_then state (state_fields cpu) reserved_zeros (written ∙ sym (filling 24 (state_fields cpu) state (omega arith) h)) cleared in
      ap (λ (l : List ℕ). left_by_power_on 0 l) (whole ∙ filling 24 (whole_fields cpu) state (omega arith) h ∙ ap (λ (c : Cpu). filled 24 (whole_fields c) state) is_state)
      ∙ sym (ap (λ (t : Bool). by_tests (t && eqb (length state) 24)) e ∙ ap by_tests (eq-eqb (length state) 24 h))
