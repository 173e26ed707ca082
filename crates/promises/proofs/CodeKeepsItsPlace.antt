-- Demand 3 over the code's own answers: a call of `screen` that says "passes", and calls of `step`, or of `run`, one after the other from there on. Whatever satisfies the contracts, as the source states them, keeps the promise.
use mathlib.Core.Path.{◌≡◌, refl, ap, sym, subst, subst⁻¹, ◌∙◌}
use mathlib.Core.List.{List, []}
use Prim.Native.Nat.{ℕ, zero, suc, ◌<◌}
use native.Mathlib.Omega.{arith}
use lib.Dec.{T}
use lib.ListN.{length}
use Rattle.sm83.specs.declared.Cpu.{Cpu}
use Rattle.std.specs.Prelude.{Ok}
use Rattle.definition.specs.Bus.{Performed, plain}
use Rattle.sm83.specs.State.{pc}
use Rattle.definition.specs.Step.{Ended, step_on}
use Rattle.definition.specs.Run.{RunAnswer, run_for}
use Rattle.routine.specs.Screen.{is_marked, screen}
use Rattle.routine.specs.Trace.{Quiet, Fine, is_fine, is_fine_last, takes_none, SameWindow, SamePending, state_at, step_at, pending_at, memory_at, Stays, GoesOn, run_state_at, run_at, run_pending_at, RunGoesOn, RunStaysToTheLast, RunStaysToTheEnd}
use Rattle.routine.proofs.Before.{window}
use Rattle.routine.proofs.PassedRoutine.{demand_3, demand_3_runs, demand_3_runs_end}
use Rattle.promises.proofs.Between.{stopped_in_between}
use Rattle.promises.proofs.Calls.{ScreenCall, screened, first_of, last_of, lent_marks, marks_left, verdict_is, marks_are, StepCall, state_given, memory_given, memory_left, outcome_is, state_is, memory_is, RunCall, state_run, memory_run, budget_of, answered, run_answers}

-- The window was screened and passes; its marks are those that the call left.
module _ (call : ScreenCall) (passes : call.verdict ≡ Ok tt) (address : last_of call < 65536) where
  abbrev pub first : ℕ
  first = first_of call

  abbrev pub n : ℕ
  n = window (first_of call) (last_of call)

  abbrev pub Marked : ℕ → Type 0
  Marked a = T (is_marked (marks_left call) first a)

  passed : (screen (screened call) (first_of call) (last_of call) (lent_marks call)).verdict ≡ Ok tt
  passed = sym (verdict_is call) ∙ passes

  abbrev marks_of_the_screen : List ℕ
  marks_of_the_screen = (screen (screened call) (first_of call) (last_of call) (lent_marks call)).marks

  by_the_screen : (a : ℕ) → Marked a → T (is_marked marks_of_the_screen first a)
  by_the_screen a = subst (λ (l : List ℕ). T (is_marked l first a)) (marks_are call)

  in_the_marks : (a : ℕ) → T (is_marked marks_of_the_screen first a) → Marked a
  in_the_marks a = subst⁻¹ (λ (l : List ℕ). T (is_marked l first a)) (marks_are call)

  -- "Start a passed routine at any marked address, in a state that a step accepts, awake, with interrupts off and none being enabled": in a memory that has the bytes that were screened, in the window
  pub record Starts (s : Cpu) (m : List ℕ) : Type 0 where
    pub whole : length m ≡ 65536
    pub same : SameWindow plain first n (screened call) m
    pub quiet : Quiet s
    pub marked : Marked (pc s)

  -- Call i of `step` has the state that the call before it answered.
  module _ (step : ℕ → StepCall) (onward : (i : ℕ) → state_given (step (suc i)) ≡ (step i).stepped.cpu) where
    abbrev cpu : ℕ → Cpu
    cpu i = state_given (step i)

    abbrev mem : ℕ → List ℕ
    mem i = memory_given (step i)

    -- call i stays in the routine, and of the memory that it left a host changes what it likes before the next, but not the routine (no call is ever pending: `left_alone` of PassedRoutine)
    pub record StepGoesOn (i : ℕ) : Type 0 where
      pub stays : Stays plain first n mem (cpu 0) [] i
      pub host : SameWindow plain first n (memory_left (step i)) (mem (suc i))
      pub host_pending : SamePending plain (pending_at plain mem (cpu 0) [] (suc i)) (memory_left (step i)) (mem (suc i))
      pub whole : length (mem (suc i)) ≡ 65536

    -- what call k answers is not refused, does not halt, stop or take an interrupt: neither by its outcome, nor by its accesses, nor by the state that it leaves
    pub record FineCall (k : ℕ) : Type 0 where
      pub outcome : T (is_fine (step k).stepped.outcome)
      pub none_taken : T (takes_none (step_on plain (cpu k) (mem k)).accesses)
      pub leaves_quiet : Quiet (step k).stepped.cpu

    same_states : (k : ℕ) → cpu k ≡ state_at plain mem (cpu 0) k
    unfolding state_at
    same_states zero = refl
    same_states (suc k) = onward k ∙ state_is (step k) ∙ ap (λ (s : Cpu). (step_on plain s (mem k)).value.cpu) (same_states k)

    same_memories : (i : ℕ) → memory_left (step i) ≡ (step_at plain mem (cpu 0) i).memory
    same_memories i = memory_is (step i) ∙ ap (λ (s : Cpu). (step_on plain s (mem i)).memory) (same_states i)

    goes_on : (i : ℕ) → StepGoesOn i → GoesOn plain first n mem (cpu 0) [] i
    goes_on i g =
        record {
          stays = g.stays;
          host = subst (λ (m : List ℕ). SameWindow plain first n m (mem (suc i))) (same_memories i) g.host;
          host_pending = subst (λ (m : List ℕ). SamePending plain (pending_at plain mem (cpu 0) [] (suc i)) m (mem (suc i))) (same_memories i) g.host_pending;
          whole = g.whole;
        }

    -- "until a return is taken or a step writes into the routine, every PC is a marked instruction start, and no step is refused, halts, stops or takes an interrupt"
    pub steps_keep_the_place : Starts (cpu 0) (mem 0) → (k : ℕ) → ((i : ℕ) → i < k → StepGoesOn i) → Marked (pc (cpu k)) × Quiet (cpu k) × FineCall k
    steps_keep_the_place begun k goes =
        let end : _ = demand_3 (screened call) (first_of call) (last_of call) (lent_marks call) passed address mem begun.whole begun.same (cpu 0) begun.quiet (by_the_screen (pc (cpu 0)) begun.marked) k (λ i below. goes_on i (goes i below)) in
        let here : state_at plain mem (cpu 0) k ≡ cpu k = sym (same_states k) in
        let fine : Fine (step_on plain (cpu k) (mem k)) = subst (λ (s : Cpu). Fine (step_on plain s (mem k))) here end.2 in (
          in_the_marks (pc (cpu k)) (subst (λ (s : Cpu). T (is_marked marks_of_the_screen first (pc s))) here end.0),
          subst Quiet here end.1,
          record {
            outcome = subst⁻¹ (λ o. T (is_fine o)) (outcome_is (step k)) fine.outcome;
            none_taken = fine.none_taken;
            leaves_quiet = subst⁻¹ Quiet (state_is (step k)) fine.leaves_quiet;
          },
        )

  -- Call j of `run` has the state that the call before it answered.
  module _ (run : ℕ → RunCall) (onward : (j : ℕ) → state_run (run (suc j)) ≡ (run j).ran.cpu) where
    abbrev start : ℕ → Cpu
    start j = state_run (run j)

    abbrev memory : ℕ → List ℕ
    memory j = memory_run (run j)

    abbrev budget : ℕ → ℕ
    budget j = budget_of (run j)

    -- each step of call j stays in the routine, and of the memory that it left a host changes what it likes before the next, but not the routine (no call is ever pending: `runs_left_alone`)
    pub record RunCallGoesOn (j : ℕ) : Type 0 where
      pub stays : RunStaysToTheEnd plain first n budget memory (start 0) [] j
      pub host : SameWindow plain first n (answered (run j)).memory (memory (suc j))
      pub host_pending : SamePending plain (run_pending_at plain budget memory (start 0) [] (suc j)) (answered (run j)).memory (memory (suc j))
      pub whole : length (memory (suc j)) ≡ 65536

    -- the state before step i of call k, and that step
    abbrev pub within : ℕ → ℕ → Cpu
    within k = state_at plain (memory_at plain (start k) (memory k)) (start k)

    abbrev pub step_within : ℕ → ℕ → Performed (List ℕ) Ended
    step_within k = step_at plain (memory_at plain (start k) (memory k)) (start k)

    same_starts : (k : ℕ) → start k ≡ run_state_at plain budget memory (start 0) k
    unfolding run_state_at
    same_starts zero = refl
    same_starts (suc k) = onward k ∙ ap (λ (r : RunAnswer (List ℕ)). r.cpu) (run_answers (run k)) ∙ ap (λ (s : Cpu). (run_for plain (budget k) s (memory k)).cpu) (same_starts k)

    -- what holds of the definition's run k holds of what call k answered
    answers_too : (P : Cpu → RunAnswer (List ℕ) → Type 0) (k : ℕ) → P (run_state_at plain budget memory (start 0) k) (run_at plain budget memory (start 0) k) → P (start k) (answered (run k))
    answers_too P k h = subst⁻¹ (P (start k)) (run_answers (run k)) (subst⁻¹ (λ (s : Cpu). P s (run_for plain (budget k) s (memory k))) (same_starts k) h)

    same_left : (j : ℕ) → (answered (run j)).memory ≡ (run_at plain budget memory (start 0) j).memory
    same_left j = answers_too (λ s r. r.memory ≡ (run_at plain budget memory (start 0) j).memory) j refl

    run_goes_on : (j : ℕ) → RunCallGoesOn j → RunGoesOn plain first n budget memory (start 0) [] j
    run_goes_on j g =
        record {
          stays = g.stays;
          host = subst (λ (m : List ℕ). SameWindow plain first n m (memory (suc j))) (same_left j) g.host;
          host_pending = subst (λ (m : List ℕ). SamePending plain (run_pending_at plain budget memory (start 0) [] (suc j)) m (memory (suc j))) (same_left j) g.host_pending;
          whole = g.whole;
        }

    -- Run after run, from such a start.
    module _ (begun : Starts (start 0) (memory 0)) (k : ℕ) (goes : (j : ℕ) → j < k → RunCallGoesOn j) where
      -- each PC and each step of call k, and its last outcome; its last step may do as it likes
      pub runs_keep_the_place : RunStaysToTheLast plain first n budget memory (start 0) [] k
          → ((i : ℕ) → i < (run k).ran.steps → Marked (pc (within k i)) × Quiet (within k i) × Fine (step_within k i))
          × T (is_fine_last (run k).ran.last)
      runs_keep_the_place stays = let it : _ = answers_too Kept k end in ((λ i below. let here : _ = it.0 i below in (in_the_marks (pc (within k i)) here.0, here.1, here.2)), it.1)
        where
          -- of a run from s that answered r
          Kept : Cpu → RunAnswer (List ℕ) → Type 0
          Kept s r =
              ((i : ℕ) → i < r.steps
              → T (is_marked marks_of_the_screen first (pc (state_at plain (memory_at plain s (memory k)) s i))) × Quiet (state_at plain (memory_at plain s (memory k)) s i) × Fine (step_at plain (memory_at plain s (memory k)) s i))
              × T (is_fine_last r.last)

          end : Kept (run_state_at plain budget memory (start 0) k) (run_at plain budget memory (start 0) k)
          end = demand_3_runs (screened call) (first_of call) (last_of call) (lent_marks call) passed address budget memory begun.whole begun.same (start 0) begun.quiet (by_the_screen (pc (start 0)) begun.marked) k (λ j below. run_goes_on j (goes j below)) stays

      -- the same PCs as the code answers them: what a call with a smaller budget says from where call k began
      pub seen_in_between : RunStaysToTheLast plain first n budget memory (start 0) [] k
          → (d : RunCall) → state_run d ≡ start k → memory_run d ≡ memory k → budget_of d < (run k).ran.steps → Marked (pc d.ran.cpu) × Quiet d.ran.cpu
      seen_in_between stays d same-state same_memory fewer =
          let it : _ = (runs_keep_the_place stays).0 (budget_of d) fewer in
          let there : d.ran.cpu ≡ within k (budget_of d) = (stopped_in_between (run k) d same-state same_memory (omega arith)).1 in
          (subst⁻¹ (λ (s : Cpu). Marked (pc s)) there it.0, subst⁻¹ Quiet there it.1)

      -- and where call k ends, if its last step stays too
      pub runs_end_in_place : RunStaysToTheEnd plain first n budget memory (start 0) [] k → Marked (pc (run k).ran.cpu) × Quiet (run k).ran.cpu
      runs_end_in_place stays =
          let it : _ =
          answers_too (λ s r. T (is_marked marks_of_the_screen first (pc r.cpu)) × Quiet r.cpu) k
          (demand_3_runs_end (screened call) (first_of call) (last_of call) (lent_marks call) passed address budget memory begun.whole begun.same (start 0) begun.quiet (by_the_screen (pc (start 0)) begun.marked) k (λ j below. run_goes_on j (goes j below)) stays) in
          (in_the_marks (pc (run k).ran.cpu) it.0, it.1)
