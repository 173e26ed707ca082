-- One turn of the walk in code: what it does with the shape that it read, by the class's own test.
use mathlib.Core.Path.{◌≡◌, sym, ap, subst⁻¹, ◌∙◌}
use mathlib.Core.Bool.{Bool, true, false}
use mathlib.Core.List.{List}
use Prim.Native.Nat.{ℕ, ◌+◌, ◌-◌, ◌≤◌, ◌<◌}
use native.Mathlib.Omega.{arith}
use lib.ListN.{length, replicate, set}
use Rattle.sm83.specs.declared.Addr.{Addr}
use Rattle.routine.specs.declared.ScreenRefusal.TheVariants.{ForbiddenOpcode, PastTheEnd}
use Rattle.std.specs.Prelude.{Err}
use Rattle.routine.specs.Verdict.{Verdict}
use Rattle.routine.specs.declared.Finding.TheVariants.{At}
use Rattle.sm83.specs.State.{addr}
use Rattle.routine.specs.Flow.{class_at, instruction_at, is_forbidden}
use Rattle.screen.specs.declared.class.Shape.{Shape}
use Rattle.screen.specs.Shapes.{shape_of}
use Rattle.screen.specs.Parts.{walked, Finds}
use Rattle.screen.proofs.walk.Steps.{length_at}
use Rattle.screen.proofs.walk.Reached.{Reached, found_7, found_8, onward}

-- what a turn knows: how far the walk has come, where it stands, the shape that it read there, and whether that is forbidden
pub record Turn (m : List ℕ) (first n at : ℕ) (marks : List ℕ) (here : Addr) (s : Shape) (forbidden : Bool) : Type 0 where
  pub reached : Reached m first n at marks
  pub more : at < n
  pub there : here ≡ addr (first + at)
  pub read : s ≡ shape_of (instruction_at m here.0)
  pub told : forbidden ≡ is_forbidden s.1

module _ {m : List ℕ} {first n at : ℕ} {marks : List ℕ} {here : Addr} {s : Shape} {forbidden : Bool} (turn : Turn m first n at marks here s forbidden) where
  shape_there : s ≡ shape_of (instruction_at m (first + at))
  shape_there = turn.read ∙ ap (λ (h : Addr). shape_of (instruction_at m h.0)) turn.there

  length_there : s.0 ≡ length_at m (first + at)
  length_there = ap (λ (t : Shape). t.0) shape_there

  is_forbidden_lem : is_forbidden (class_at m (first + at)) ≡ forbidden
  is_forbidden_lem = sym (turn.told ∙ ap (λ (t : Shape). is_forbidden t.1) shape_there)

  -- a finding leaves the marks all 0
  cleared : {left : List ℕ} → left ≡ replicate (length marks) 0 → left ≡ replicate n 0
  cleared clear = clear ∙ ap (λ (j : ℕ). replicate j 0) turn.reached.kept

  pub turn_7 : forbidden ≡ true → {left : List ℕ} → left ≡ replicate (length marks) 0 → Finds walked m first n (Err (At ForbiddenOpcode here)) left
  turn_7 bad clear = record { finding = ap {B = Verdict} (λ (h : Addr). Err (At ForbiddenOpcode h)) turn.there ∙ sym (found_7 m first n turn.reached turn.more (is_forbidden_lem ∙ bad)); marks = cleared clear }

  module _ (ok : forbidden ≡ false) where
    pub turn_8 : n - at < s.0 → {left : List ℕ} → left ≡ replicate (length marks) 0 → Finds walked m first n (Err (At PastTheEnd here)) left
    turn_8 far clear = record { finding = ap {B = Verdict} (λ (h : Addr). Err (At PastTheEnd h)) turn.there ∙ sym (found_8 m first n turn.reached turn.more (is_forbidden_lem ∙ ok) (omega (arith, length_there))); marks = cleared clear }

    pub turn_on : s.0 ≤ n - at → Reached m first n (at + s.0) (set marks at 1)
    turn_on fits =
        subst⁻¹ (λ (k : ℕ). Reached m first n (at + k) (set marks at 1)) length_there
        (onward m first n turn.reached turn.more (is_forbidden_lem ∙ ok) (omega (arith, length_there)))
