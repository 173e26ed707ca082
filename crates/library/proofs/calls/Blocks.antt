-- The blocks as the exported functions leave them: laws of `run_blocks` over plain variables.
use Rattle.std.proofs.Common.{if◌then◌else◌, Option, Some, None}
use mathlib.Core.Path.{◌≡◌, ap, sym, ◌∙◌}
use mathlib.Core.Bool.{Bool}
use mathlib.Core.List.{List}
use Prim.Native.Nat.{ℕ}
use lib.ListN.{length}
use borrow.Author.Tests.{eq-eqb, ne_eqb}
use Rattle.sm83.specs.declared.Cpu.{Cpu}
use Rattle.definition.specs.Bus.{plain}
use Rattle.outcome.specs.Numbers.{last_number}
use Rattle.definition.specs.Run.{RunAnswer, run_for}
use Rattle.run.specs.declared.Ran.{Ran}
use Rattle.run.specs.Answers.{run_answer}
use Rattle.blocks.specs.StateBlock.{state_of, state_bytes}
use Rattle.blocks.specs.AnswerBlock.{answer_bytes}
use Rattle.library.specs.Left.{malformed, left, into_blocks, run_from, run_blocks}

module _ (budget : ℕ) (state memory block : List ℕ) where
  pub wrong_answer_block : (length block ≡ 24 → ⊥) → left malformed state memory block ≡ run_blocks budget state memory block
  unfolding run_blocks
  wrong_answer_block h = sym (ap (λ (t : Bool). if t then run_from (state_of state) budget state memory block else left malformed state memory block) (ne_eqb (length block) 24 h))

  well_sized : length block ≡ 24 → run_from (state_of state) budget state memory block ≡ run_blocks budget state memory block
  unfolding run_blocks
  well_sized h = sym (ap (λ (t : Bool). if t then run_from (state_of state) budget state memory block else left malformed state memory block) (eq-eqb (length block) 24 h))

  pub wrong_state_block : length block ≡ 24 → state_of state ≡ None → left malformed state memory block ≡ run_blocks budget state memory block
  wrong_state_block h e = ap (λ (x : Option Cpu). run_from x budget state memory block) (sym e) ∙ well_sized h

  pub both_written : (cpu : Cpu) (r : Ran) (number : ℕ) (state' memory' block' : List ℕ) → length block ≡ 24 → state_of state ≡ Some cpu → run_answer r memory' ≡ run_for plain budget cpu memory → state' ≡ state_bytes r.cpu state → block' ≡ answer_bytes r.last r.steps r.cycles block → number ≡ last_number r.last → left number state' memory' block' ≡ run_blocks budget state memory block
  both_written cpu r number state' memory' block' h read ran state-left block-left numbered =
      simp (numbered, state-left, block-left)
      (ap (λ (x : RunAnswer (List ℕ)). into_blocks x state block) ran ∙ ap (λ (x : Option Cpu). run_from x budget state memory block) (sym read) ∙ well_sized h)
