-- How far the walk in code has come, said through the definition: what it still has to find, and the marks so far.
use mathlib.Core.Path.{◌≡◌, sym, ap, ap₂, ◌∙◌}
use mathlib.Core.Bool.{true, false}
use mathlib.Core.List.{List, ◌∷◌, ◌++◌, append_assoc, append-nil}
use Prim.Native.Nat.{ℕ, suc, ◌+◌, ◌-◌, ◌≤◌, ◌<◌}
use native.Mathlib.Omega.{arith}
use lib.ListN.{length, take, drop, set, replicate, length-set, replicate-append-replicate}
use lib.Seq.{set_at, take-add, drop-drop, take_all, length-take-le}
use Rattle.routine.specs.declared.ScreenRefusal.TheVariants.{ForbiddenOpcode, PastTheEnd}
use Rattle.std.specs.Prelude.{Ok}
use Rattle.opcodes.specs.Instruction.{operands}
use Rattle.routine.specs.Flow.{class_at, instruction_at, is_forbidden}
use Rattle.routine.specs.Screen.{refused_at, walk, marks_from, marks_of}
use Rattle.routine.proofs.Marks.{marks_length}
use Rattle.screen.specs.Parts.{walked, Finds}
use Rattle.screen.proofs.walk.Steps.{length_at, refused_7, refused_8, walk_on, marks_on, marks_of_one}

module _ (m : List ℕ) (first n : ℕ) where
  -- the walk stands at a start, or at the window's end
  pub record Reached (at : ℕ) (marks : List ℕ) : Type 0 where
    pub inside : at ≤ n
    pub kept : length marks ≡ n
    pub walked : walk m first 0 first n ≡ walk m first 0 (first + at) (n - at)
    pub ahead : drop at (marks_of m first n) ≡ marks_from m 0 (first + at) (n - at)
    pub marked : marks ≡ take at (marks_of m first n) ++ replicate (n - at) 0

  pub begun : (marks : List ℕ) → length marks ≡ n → marks ≡ replicate n 0 → Reached 0 marks
  begun marks k clear =
      let all : n ≡ n - 0 = omega arith in
      let here : first ≡ first + 0 = omega arith in
      record {
        inside = omega arith;
        kept = k;
        walked = ap₂ (walk m first 0) here all;
        ahead = ap₂ (marks_from m 0) here all;
        marked = clear ∙ ap (λ (j : ℕ). replicate j 0) all;
      }

  module _ {at : ℕ} {marks : List ℕ} (r : Reached at marks) (more : at < n) where
    pub found_7 : is_forbidden (class_at m (first + at)) ≡ true → walk m first 0 first n ≡ refused_at ForbiddenOpcode (first + at)
    found_7 bad = r.walked ∙ refused_7 m first (first + at) (n - at) (omega arith) bad

    module _ (ok : is_forbidden (class_at m (first + at)) ≡ false) where
      pub found_8 : n - at < length_at m (first + at) → walk m first 0 first n ≡ refused_at PastTheEnd (first + at)
      found_8 far = r.walked ∙ refused_8 m first (first + at) (n - at) (omega arith) ok far

      -- a store of 1 at the start, and on by the instruction's length
      pub onward : length_at m (first + at) ≤ n - at → Reached (at + length_at m (first + at)) (set marks at 1)
      onward fits =
          record {
            inside = omega arith;
            kept = length-set marks at 1 ∙ r.kept;
            walked = r.walked ∙ walk_on m first (first + at) to left e (n - at) (omega arith) ok;
            ahead = sym (drop-drop len at whole) ∙ ap (drop len) r.ahead ∙ marks_on m first (first + at) to left e (n - at) (omega arith);
            marked = ap (λ (l : List ℕ). set l at 1) before ∙ set_at (take at whole) 0 (replicate (ops + left) 0) 1 at (length-take-le at whole (omega (arith, marks_length m first n))) ∙ sym after;
          }
        where
          len : ℕ
          len = length_at m (first + at)

          whole : List ℕ
          whole = marks_of m first n

          to : ℕ
          to = first + (at + len)

          left : ℕ
          left = n - (at + len)

          e : to ≡ first + at + len
          e = omega arith

          ops : ℕ
          ops = operands (instruction_at m (first + at))

          before : marks ≡ take at whole ++ 0 ∷ replicate (ops + left) 0
          before =
              let here : n - at ≡ suc (ops + left) = omega arith in
              r.marked ∙ ap (λ (j : ℕ). take at whole ++ replicate j 0) here

          after : take (at + len) whole ++ replicate left 0 ≡ take at whole ++ 1 ∷ replicate (ops + left) 0
          after =
              ap (λ (l : List ℕ). l ++ replicate left 0) (take-add at len whole ∙ ap (λ (l : List ℕ). take at whole ++ l) (ap (take len) r.ahead ∙ marks_of_one m (first + at) (n - at) fits))
              ∙ append_assoc (take at whole) (1 ∷ replicate ops 0) (replicate left 0)
              ∙ ap (λ (l : List ℕ). take at whole ++ 1 ∷ l) (replicate-append-replicate ops left 0)

  -- neither applies at any start
  pub ended : {at : ℕ} {marks : List ℕ} → Reached at marks → n ≤ at → Finds walked m first n (Ok tt) marks
  unfolding walk
  ended {at} {marks} r done =
      record {
        finding = sym (r.walked ∙ ap (walk m first 0 (first + at)) none);
        marks = r.marked ∙ ap₂ (λ (l : List ℕ) (j : ℕ). l ++ replicate j 0) (take_all at (marks_of m first n) (omega (arith, marks_length m first n))) none ∙ append-nil (marks_of m first n);
      }
    where
      none : n - at ≡ 0
      none = omega arith
