-- A long run is its pieces: calls of `run` one after the other, each from where the one before it ended, answer what one run with the sum of their budgets would. A budget is a `u16`; so any number of steps can be run, in pieces of any sizes.
use mathlib.Core.Path.{◌≡◌, ap, sym, ◌∙◌}
use mathlib.Core.Bool.{true, false}
use mathlib.Core.List.{List}
use Prim.Native.Nat.{ℕ, ◌+◌}
use Rattle.sm83.specs.declared.Cpu.{Cpu}
use Rattle.definition.specs.Bus.{plain}
use Rattle.definition.specs.Run.{stops_last, RunAnswer, run_for}
use Rattle.opcodes.proofs.Choices.{if_so, if_not}
use Rattle.definition.proofs.Split.{followed_by, then_run}
use Rattle.ranges.proofs.RunPieces.{run_in_two_plain}
use Rattle.promises.proofs.Calls.{RunCall, state_run, memory_run, budget_of, answered, run_answers}

-- what has been answered so far is the run of so many steps
module _ (s : Cpu) (m : List ℕ) (so_many : ℕ) (so_far : RunAnswer (List ℕ)) (is : so_far ≡ run_for plain so_many s m) where
  -- one call more: last outcome, state and memory are its own, steps and M-cycles add up
  pub one_piece_more : stops_last so_far.last ≡ false → (c : RunCall) → state_run c ≡ so_far.cpu → memory_run c ≡ so_far.memory
      → followed_by so_far (answered c) ≡ run_for plain (so_many + budget_of c) s m
  one_piece_more goes_on c same-state same_memory =
      ap (followed_by so_far) (run_answers c ∙ ap (λ (t : Cpu). run_for plain (budget_of c) t (memory_run c)) same-state ∙ ap (λ (w : List ℕ). run_for plain (budget_of c) so_far.cpu w) same_memory)
      ∙ sym (if_not so_far _ goes_on)
      ∙ ap (then_run plain (budget_of c)) is
      ∙ sym (run_in_two_plain so_many (budget_of c) s m)

  -- a piece that stopped the run is the end of it
  pub stopped_for_good : stops_last so_far.last ≡ true → (more : ℕ) → so_far ≡ run_for plain (so_many + more) s m
  stopped_for_good stops more = sym (if_so so_far _ stops) ∙ ap (then_run plain more) is ∙ sym (run_in_two_plain so_many more s m)
