-- The arms of a match on a number are right by one computed test of each over all numbers; the single numbers of an arm are read off the function's own code.
use Rattle.std.proofs.Common.{if◌then◌else◌}
use mathlib.Core.Path.{◌≡◌, refl}
use mathlib.Core.Bool.{Bool, true, false, not}
use mathlib.Core.List.{List, [], ◌∷◌}
use Prim.Native.Nat.{ℕ, ◌<◌}
use lib.Dec.{T, not_T}
use lib.Ieee.Bits.{is_true}
use mir.Facts.{T_not-not}
use mir.Syntax.{Body, skip, seq, assign, block, loop, cond, switch, exit, return, call, call_v, lend_static, unreachable, Arms, arm, default, no_default}
use mir.Val.{has_key}
use types.Run.{OneOf, hit, miss}
use Rattle.opcodes.proofs.Tested.{upto, agree}

-- the arms of a match that a function begins with, each by its single numbers
abbrev numbers : Arms → List (List ℕ)
numbers (arm ks b rest) = ks ∷ numbers rest
numbers (default b) = []
numbers no_default = []

abbrev pub arms_of : Body → List (List ℕ)
arms_of skip = []
arms_of (seq b c) = arms_of b
arms_of (assign p v) = []
arms_of (block b) = arms_of b
arms_of (loop b) = []
arms_of (cond o b c) = []
arms_of (switch o arms) = numbers arms
arms_of (exit n) = []
arms_of return = []
arms_of (call f os p) = []
arms_of (call_v o f os p) = []
arms_of (lend_static p f q) = []
arms_of unreachable = []

-- what the check knows of a number that is in a range: it is no single number of any arm
abbrev pub Rest : Type 0 → List (List ℕ) → ℕ → Type 0
Rest A [] t = A
Rest A (ks ∷ l) t = Rest (A × (OneOf ks t → ⊥)) l t

abbrev pub is_single : List (List ℕ) → ℕ → Bool
is_single [] t = false
is_single (ks ∷ l) t = if has_key ks t then true else is_single l t

no_single : (A : Type 0) (l : List (List ℕ)) (t : ℕ) → Rest A l t → A × T (not (is_single l t))
no_single A [] t rest = (rest, tt)
no_single A (ks ∷ l) t rest = with_later (no_single (A × (OneOf ks t → ⊥)) l t rest)
  where
    here : (k : Bool) → has_key ks t ≡ k → (OneOf ks t → ⊥) → T (not (is_single l t)) → T (not (if k then true else is_single l t))
    here true e none later = absurd (none (hit ks t (rw e tt)))
    here false e none later = later

    with_later : (A × (OneOf ks t → ⊥)) × T (not (is_single l t)) → A × T (not (if has_key ks t then true else is_single l t))
    with_later h = (h.0.0, here (has_key ks t) refl h.0.1 h.1)

module _ {B : Type 0} (meaning : ℕ → B) (n : ℕ) where
  -- a value where a test takes a number, and what a number means elsewhere: the same as what it means everywhere
  abbrev pub Right : (ℕ → Bool) → B → Type 0
  Right takes v = upto (λ t. if takes t then v else meaning t) n ≡ upto meaning n

  taken : (takes : ℕ → Bool) (v : B) → Right takes v → (t : ℕ) → t < n → T (takes t) → v ≡ meaning t
  taken takes v right t low it = rw (is_true (takes t) it) at (agree (λ t. if takes t then v else meaning t) meaning n right t low)

  -- an arm of single numbers, and one of ranges
  pub by_number : (ks : List ℕ) (v : B) → Right (has_key ks) v → (t : ℕ) → t < n → OneOf ks t → v ≡ meaning t
  by_number ks v right t low one = taken (has_key ks) v right t low (T_not-not (has_key ks t) (not_T (not (has_key ks t)) (λ missed. miss ks t missed one)))

  pub by_range : (l : List (List ℕ)) (v : B) → Right (λ t. not (is_single l t)) v → (t : ℕ) → t < n → Rest (Unit {0}) l t → v ≡ meaning t
  by_range l v right t low rest = taken (λ k. not (is_single l k)) v right t low (no_single (Unit {0}) l t rest).1
