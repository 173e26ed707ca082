-- Demand 3 in its own words, of the screen's verdict and of the marks that it leaves. "Start a passed routine at any marked address, in a state that a step accepts, awake, with interrupts off and none being enabled.
-- Then, until a return is taken or a step writes into the routine, every PC is a marked instruction start, and no step is refused, halts, stops or takes an interrupt, provided nothing outside the processor changes the routine or the state."
use mathlib.Core.Path.{◌≡◌, subst, subst⁻¹}
use mathlib.Core.List.{List, []}
use Prim.Native.Nat.{ℕ, suc, ◌+◌, ◌≤◌, ◌<◌}
use native.Mathlib.Omega.{arith}
use lib.Dec.{T}
use lib.ListN.{length}
use Rattle.sm83.specs.declared.Cpu.{Cpu}
use Rattle.std.specs.Prelude.{Ok}
use Rattle.definition.specs.Bus.{Performed, plain}
use Rattle.sm83.specs.State.{pc}
use Rattle.definition.specs.Step.{Ended}
use Rattle.definition.specs.Run.{run_for}
use Rattle.routine.specs.Rules.{Start, Rules}
use Rattle.routine.specs.Screen.{is_marked, screen}
use Rattle.routine.specs.Trace.{Quiet, Fine, is_fine_last, Pending, SameWindow, state_at, step_at, GoesOn, StaysToTheLast, StaysToTheEnd, run_state_at, run_pending_at, run_at, run_memory, run_step_state, run_step, RunStaysToTheLast, RunStaysToTheEnd, RunGoesOn}
use Rattle.routine.proofs.Marks.{marked_start}
use Rattle.routine.proofs.Before.{window, Admitted}
use Rattle.routine.proofs.WholeScreen.{when_passed}
use Rattle.routine.proofs.Keeper.{plain_keeps}
use Rattle.routine.proofs.Covered.{Covered, Passed}
use Rattle.routine.proofs.Demand3.{demand3}
use Rattle.routine.proofs.RunDemand3.{run_each, run_fine, run_covered, runs_covered}
use Rattle.routine.proofs.NothingPending.{Inside, LeftAlone, RunLeftAlone, goes_on, stays_within, runs_go_on}

-- a window of a memory, from first to last, both addresses in it; the marks as they were lent
module _ (m : List ℕ) (first last : ℕ) (lent : List ℕ) (passes : (screen m first last lent).verdict ≡ Ok tt) (address : last < 65536) where
  abbrev n : ℕ
  n = window first last

  -- the address is marked by the screen
  abbrev pub Marked : ℕ → Type 0
  Marked a = T (is_marked (screen m first last lent).marks first a)

  rules : Rules m first (first + n)
  rules = (when_passed m first last lent passes).1

  low : first + n ≤ 65536
  low = let a : Admitted m first last lent = (when_passed m first last lent passes).0 in omega arith

  starts : (a : ℕ) → Marked a → Start m first (first + n) a
  starts a marked = (marked_start m first n a).0 (subst (λ (l : List ℕ). T (is_marked l first a)) (when_passed m first last lent passes).2 marked)

  marks : (a : ℕ) → Start m first (first + n) a → Marked a
  marks a start = subst⁻¹ (λ (l : List ℕ). T (is_marked l first a)) (when_passed m first last lent passes).2 ((marked_start m first n a).1 start)

  passed : Passed plain m first n
  passed = record { rules = rules; low = low; keeper = plain_keeps first n }

  -- "Start a passed routine at any marked address": where the window stands as it was screened, and no call is pending
  started : {s : Cpu} {m' : List ℕ} → length m' ≡ 65536 → SameWindow plain first n m m' → Quiet s → Marked (pc s) → Covered plain m first n s m' []
  started {s} whole same quiet marked = record { is_quiet_lem = quiet; at_start = starts (pc s) marked; shows = same; whole = whole; calls_pending = tt }

  in_place : {s : Cpu} {m' : List ℕ} {l : List Pending} → Covered plain m first n s m' l → Marked (pc s) × Quiet s
  in_place {s} c = (marks (pc s) c.at_start, c.is_quiet_lem)

  and_fine : {s : Cpu} {m' : List ℕ} {l : List Pending} {r : Performed (List ℕ) Ended} → Covered plain m first n s m' l × Fine r → Marked (pc s) × Quiet s × Fine r
  and_fine {s} c = (marks (pc s) c.0.at_start, c.0.is_quiet_lem, c.1)

  -- Any number of steps, where mem i is the memory before step i: between two of them a host changes what it likes outside the window.
  module _ (mem : ℕ → List ℕ) (whole : length (mem 0) ≡ 65536) (same : SameWindow plain first n m (mem 0)) (s : Cpu) (quiet : Quiet s) (marked : Marked (pc s)) where
    -- The last step is covered whatever it does: it may take a return or write into the window.
    pub demand_3 : (k : ℕ) → ((i : ℕ) → i < k → GoesOn plain first n mem s [] i)
        → Marked (pc (state_at plain mem s k)) × Quiet (state_at plain mem s k) × Fine (step_at plain mem s k)
    demand_3 k goes = and_fine (demand3 passed mem s [] (started whole same quiet marked) k goes)

    -- Nothing more is asked than demand 3's own words, "until a return is taken or a step writes into the routine": no call is ever pending.
    pub left_alone : (k : ℕ) → ((i : ℕ) → i < k → LeftAlone plain first n mem s i) → (i : ℕ) → i < k → GoesOn plain first n mem s [] i
    left_alone = goes_on passed mem s [] (started whole same quiet marked)

  -- Any number of runs one after the other, where mem j is the memory before run j: such a host between two of them.
  module _ (budget : ℕ → ℕ) (mem : ℕ → List ℕ) (whole : length (mem 0) ≡ 65536) (same : SameWindow plain first n m (mem 0)) (s : Cpu) (quiet : Quiet s) (marked : Marked (pc s)) where
    before_run : (k : ℕ) → ((j : ℕ) → j < k → RunGoesOn plain first n budget mem s [] j) → Covered plain m first n (run_state_at plain budget mem s k) (mem k) (run_pending_at plain budget mem s [] k)
    before_run = runs_covered passed budget mem s [] (started whole same quiet marked)

    -- each step of run k, and its last outcome; its last step may do as it likes
    pub demand_3_runs : (k : ℕ) → ((j : ℕ) → j < k → RunGoesOn plain first n budget mem s [] j) → RunStaysToTheLast plain first n budget mem s [] k
        → ((i : ℕ) → i < (run_at plain budget mem s k).steps → Marked (pc (run_step_state plain budget mem s k i)) × Quiet (run_step_state plain budget mem s k i) × Fine (run_step plain budget mem s k i))
        × T (is_fine_last (run_at plain budget mem s k).last)
    demand_3_runs k goes stays = ((λ i below. and_fine (run_each passed (before_run k goes) (budget k) stays i below)), run_fine passed (before_run k goes) (budget k) stays)

    -- where run k ends, if its last step stays too
    pub demand_3_runs_end : (k : ℕ) → ((j : ℕ) → j < k → RunGoesOn plain first n budget mem s [] j) → RunStaysToTheEnd plain first n budget mem s [] k
        → Marked (pc (run_at plain budget mem s k).cpu) × Quiet (run_at plain budget mem s k).cpu
    demand_3_runs_end k goes stays = in_place (run_covered passed (before_run k goes) (budget k) stays)

    -- demand 3's own words, of the runs before run k and of run k's steps before its last
    pub runs_left_alone : (k : ℕ) → ((j : ℕ) → j < k → RunLeftAlone plain first n budget mem s j) → (j : ℕ) → j < k → RunGoesOn plain first n budget mem s [] j
    runs_left_alone = runs_go_on passed budget mem s [] (started whole same quiet marked)

    pub last_run_left_alone : (k : ℕ) → ((j : ℕ) → j < k → RunGoesOn plain first n budget mem s [] j)
        → ((i : ℕ) → suc i < (run_at plain budget mem s k).steps → Inside plain first n (run_memory plain budget mem s k) (run_state_at plain budget mem s k) i)
        → RunStaysToTheLast plain first n budget mem s [] k
    last_run_left_alone k goes inside i below = stays_within passed (before_run k goes) i (λ j earlier. inside j (omega arith))

  -- One run.
  module _ (m' : List ℕ) (whole : length m' ≡ 65536) (same : SameWindow plain first n m m') (s : Cpu) (quiet : Quiet s) (marked : Marked (pc s)) (budget : ℕ) where
    pub demand_3_run : StaysToTheLast plain first n budget s m' [] → T (is_fine_last (run_for plain budget s m').last)
    unfolding run_state_at run_pending_at
    demand_3_run stays = (demand_3_runs (λ j. budget) (λ j. m') whole same s quiet marked 0 (λ j below. absurd (omega arith)) stays).1

    pub demand_3_run_ends : StaysToTheEnd plain first n budget s m' [] → Marked (pc (run_for plain budget s m').cpu) × Quiet (run_for plain budget s m').cpu
    unfolding run_state_at run_pending_at
    demand_3_run_ends = demand_3_runs_end (λ j. budget) (λ j. m') whole same s quiet marked 0 (λ j below. absurd (omega arith))
