-- What each refusal that names an address says: what is wrong at that start, that no start before it is wrong so, and that no earlier test finds anything.
use Rattle.std.proofs.Common.{if◌then◌else◌}
use mathlib.Core.Path.{◌≡◌}
use mathlib.Core.Bool.{not}
use mathlib.Core.List.{List, [], ◌∷◌}
use Prim.Native.Nat.{ℕ, zero, suc, ◌≤◌, ◌<◌}
use native.Mathlib.Omega.{arith}
use lib.Dec.{T, eqb}
use Rattle.routine.specs.declared.ScreenRefusal.{ScreenRefusal}
use Rattle.routine.specs.declared.ScreenRefusal.TheVariants.{ForbiddenOpcode, PastTheEnd, FallsThrough, JumpUnmarked}
use Rattle.routine.specs.Verdict.{Verdict}
use Rattle.std.specs.Prelude.{Ok, Err}
use Rattle.routine.specs.declared.Finding.TheVariants.{BeforeWalk, At}
use Rattle.routine.specs.Numbers.{number_of}
use Rattle.routine.specs.Flow.{class_at, past, is_forbidden, ends_routine}
use Rattle.routine.specs.Rules.{Start, JumpsTo}

-- A round of tests over the starts of a window: its number, what it asks of a start, and what it refuses one with.
pub record Round : Type 1 where
  pub number : ℕ
  pub asks : ℕ → Type 0
  pub refuses : ℕ → ScreenRefusal

abbrev round : ℕ → (ℕ → Type 0) → (ℕ → ScreenRefusal) → Round
round n asked refused = record { number = n; asks = asked; refuses = refused }

-- Of a round and those after it: the one at a place, and the place of a number. Past the last one, that one.
abbrev round_at : Round → List Round → ℕ → Round
round_at r [] k = r
round_at r (s ∷ l) zero = r
round_at r (s ∷ l) (suc k) = round_at s l k

abbrev place_of : Round → List Round → ℕ → ℕ
place_of r [] n = 0
place_of r (s ∷ l) n = if eqb r.number n then 0 else suc (place_of s l n)

module _ (m : List ℕ) (first end : ℕ) where
  -- of an address: 7 and 8 find nothing; 9 finds nothing; 10 finds nothing
  abbrev pub Sound : ℕ → Type 0
  Sound a = T (not (is_forbidden (class_at m a))) × (past m a ≤ end)

  abbrev pub Stops : ℕ → Type 0
  Stops a = past m a ≡ end → T (ends_routine (class_at m a))

  abbrev pub JumpsToStarts : ℕ → Type 0
  JumpsToStarts a = (t : ℕ) → JumpsTo m a t → Start m first end t

  -- "At each start 7 is tested before 8, and the first finding by address wins. After the walk comes 9 .. Then 10, lowest jump first."
  abbrev walk_round : Round
  walk_round = round 7 Sound (λ a. if is_forbidden (class_at m a) then ForbiddenOpcode else PastTheEnd)

  abbrev rounds : List Round
  rounds =
      round 9 Stops (λ a. FallsThrough)
      ∷ round 10 JumpsToStarts (λ a. JumpUnmarked)
      ∷ []

  abbrev pub Asks : ℕ → ℕ → Type 0
  Asks k = (round_at walk_round rounds k).asks

  abbrev pub refusal_at : ℕ → ℕ → ScreenRefusal
  refusal_at k = (round_at walk_round rounds k).refuses

  abbrev pub place : ℕ → ℕ
  place = place_of walk_round rounds

  -- at every start, and at every start below an address
  abbrev pub Every : (ℕ → Type 0) → Type 0
  Every P = (b : ℕ) → Start m first end b → P b

  abbrev pub Below : ℕ → (ℕ → Type 0) → Type 0
  Below a P = (b : ℕ) → Start m first end b → b < a → P b

  -- no round before this one finds anything
  abbrev pub Before : ℕ → Type 0
  Before k = (j : ℕ) → j < k → Every (Asks j)

  -- nor does this one at a start below
  pub record LowestAt (k a : ℕ) : Type 0 where
    pub start : Start m first end a
    pub earlier : Before k
    pub below : Below a (Asks k)

  abbrev pub Lowest : ℕ → ℕ → Type 0
  Lowest n = LowestAt (place n)

  pub data Finding : ScreenRefusal → ℕ → Type 0 where
    -- 7: "forbidden opcode"
    forbidden : {a : ℕ} → Lowest 7 a → T (is_forbidden (class_at m a)) → Finding ForbiddenOpcode a
    -- 8: "instruction runs past the window's end"
    runs_past : {a : ℕ} → Lowest 7 a → T (not (is_forbidden (class_at m a))) → end < past m a → Finding PastTheEnd a
    -- 9: "last instruction may fall through"
    falls_through : {a : ℕ} → Lowest 9 a → past m a ≡ end → T (not (ends_routine (class_at m a))) → Finding FallsThrough a
    -- 10: "JP or JR, conditional or not, to an unmarked address"
    strays : {a t : ℕ} → Lowest 10 a → JumpsTo m a t → (Start m first end t → ⊥) → Finding JumpUnmarked a

  -- no other number comes with an address
  pub numbered : {r : ScreenRefusal} {a : ℕ} → Finding r a → (7 ≤ number_of r) × (number_of r ≤ 10)
  numbered (forbidden low bad) = omega arith
  numbered (runs_past low ok far) = omega arith
  numbered (falls_through low last bad) = omega arith
  numbered (strays low jump none) = omega arith

  -- what a verdict shows: P if it passes, the finding if it names an address; no other comes
  abbrev pub Shows : Type 0 → Verdict → Type 0
  Shows P (Ok done) = P
  Shows P (Err (BeforeWalk r)) = ⊥
  Shows P (Err (At r a)) = Finding r a.0
