-- One step of the watch: before it PC is tested, and after it the run's answer, with what the step was going to write and to take, says why.
use Rattle.std.specs.Prelude.{Option, Some}
use Rattle.std.proofs.Common.{if◌then◌else◌}
use mathlib.Core.Path.{◌≡◌, refl, sym, ap, ap₂, ◌∙◌}
use mathlib.Core.Bool.{Bool, true, false, not}
use mathlib.Core.List.{List}
use Prim.Native.Nat.{ℕ}
use lib.ListN.{length}
use borrow.Author.Tests.{not-true, not-false}
use Rattle.sm83.specs.declared.Cpu.{Cpu}
use Rattle.sm83.specs.State.{pc}
use Rattle.opcodes.proofs.Choices.{if_so, if_not}
use Rattle.definition.specs.Bus.{Performed, plain}
use Rattle.definition.specs.Step.{Ended, step_on}
use Rattle.definition.specs.Run.{RunAnswer, run_for}
use Rattle.routine.specs.Screen.{is_marked}
use Rattle.routine.specs.Trace.{takes_none}
use Rattle.run.specs.declared.Ran.{Ran}
use Rattle.run.specs.Answers.{run_answer}
use Rattle.run.proofs.Admitted.{once}
use Rattle.watch.specs.Written.{written_by, addresses_of}
use Rattle.watch.specs.declared.written.Written.{Written}
use Rattle.watch.specs.declared.reasons.Why.{Why}
use Rattle.watch.specs.declared.reasons.Why.TheVariants.{Strays, Interrupted}
use Rattle.watch.specs.Reasons.{first_inside, by_accesses, by_state, by_last, why_of, WatchAnswer, not_begun, watch_on}
use Rattle.outcome.specs.declared.Outcome.{Outcome}

-- the other way round
if_swapped : {A : Type 0} (t : Bool) (p q : A) → (if not t then p else q) ≡ (if t then q else p)
if_swapped true p q = refl
if_swapped false p q = refl

module _ (s : Cpu) (m : List ℕ) (first : ℕ) (marks : List ℕ) (astray : Bool) (tested : astray ≡ not (is_marked marks first (pc s))) where
  -- the step is done, or it is not
  abbrev done : WatchAnswer
  done = record { why = why_of first (length marks) (step_on plain s m); ran = run_for plain 1 s m }

  abbrev undone : WatchAnswer
  undone = record { why = Some Strays; ran = not_begun s m }

  pub strayed : astray ≡ true → undone ≡ watch_on s m first marks
  unfolding watch_on
  strayed e = sym (if_not {t = is_marked marks first (pc s)} done undone (not-true _ (sym tested ∙ e)))

  -- what the code asked before the step, and what the run answered
  module _ (left : astray ≡ false) (written : Written) (taken : Bool) (rest why : Option Why) (ran : Ran) (m' : List ℕ) where
    abbrev did : Performed (List ℕ) Ended
    did = step_on plain s m

    by_accesses_lem : addresses_of written ≡ written_by did.accesses → taken ≡ not (takes_none did.accesses) → rest ≡ (if taken then Some Interrupted else first_inside first (length marks) (addresses_of written)) → rest ≡ by_accesses first (length marks) did.accesses
    by_accesses_lem e f g =
        g
        ∙ ap₂ (λ (t : Bool) (l : List ℕ). if t then Some Interrupted else first_inside first (length marks) l) f e
        ∙ if_swapped (takes_none did.accesses) _ _

    says : run_answer ran m' ≡ run_for plain 1 s m → rest ≡ by_accesses first (length marks) did.accesses → why ≡ by_last ran.last (by_state ran.cpu rest) → why ≡ why_of first (length marks) did
    unfolding why_of
    says r e g =
        let last = ap (λ (x : RunAnswer (List ℕ)). x.last) r ∙ (once plain s m).last in
        let cpu = ap (λ (x : RunAnswer (List ℕ)). x.cpu) r ∙ (once plain s m).cpu in
        g
        ∙ ap (λ (l : Option Outcome). by_last l (by_state ran.cpu rest)) last
        ∙ ap (λ (t : Cpu). by_last (Some did.value.outcome) (by_state t rest)) cpu
        ∙ ap (λ (w : Option Why). by_last (Some did.value.outcome) (by_state did.value.cpu w)) e

    pub stepped : addresses_of written ≡ written_by did.accesses → taken ≡ not (takes_none did.accesses) → rest ≡ (if taken then Some Interrupted else first_inside first (length marks) (addresses_of written)) → run_answer ran m' ≡ run_for plain 1 s m → why ≡ by_last ran.last (by_state ran.cpu rest) → record { why = why; ran = run_answer ran m' } ≡ watch_on s m first marks
    unfolding watch_on
    stepped e f g r h =
        ap₂ {C = WatchAnswer} (λ (w : Option Why) (x : RunAnswer (List ℕ)). record { why = w; ran = x }) (says r (by_accesses_lem e f g) h) r
        ∙ sym (if_so {t = is_marked marks first (pc s)} done undone (not-false _ (sym tested ∙ left)))
