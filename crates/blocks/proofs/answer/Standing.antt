-- Number and values of an answer, read back by their offsets, are those that were written.
use Rattle.std.specs.Prelude.{Option}
use mathlib.Core.Path.{◌≡◌, refl, sym, subst}
use mathlib.Core.List.{List, [], ◌∷◌, ◌++◌}
use Prim.Native.Nat.{ℕ}
use lib.ListN.{length, take, drop}
use Rattle.sm83.specs.declared.MCycles.{MCycles}
use Rattle.outcome.specs.Numbers.{last_says}
use Rattle.blocks.specs.Bytes.{word_at, count_at}
use Rattle.blocks.specs.Registers.{registers_at}
use Rattle.blocks.specs.AnswerBlock.{shown, answer_fields, answer_bytes}
use Rattle.blocks.proofs.state.Coded.{word_there_lem, count_there}
use Rattle.blocks.proofs.bytes.Filled.{at_length}
use Rattle.outcome.specs.declared.Outcome.{Outcome}

-- what stands in a step's or a run's answer
pub record StandsInBlock (last : Option Outcome) (steps : ℕ) (cycles : MCycles) (block : List ℕ) : Type 0 where
  pub number_at_0 : word_at block 0 ≡ (last_says last).number
  pub steps_at_2 : word_at block 2 ≡ steps
  pub cycles_at_4 : count_at block 4 ≡ cycles.0
  pub registers_at_8 : registers_at block 8 ≡ shown (last_says last).values
  pub zeros_at_20 : take 4 (drop 20 block) ≡ 0 ∷ 0 ∷ 0 ∷ 0 ∷ []

fields_answer : (last : Option Outcome) (steps : ℕ) (cycles : MCycles) (rest : List ℕ) → StandsInBlock last steps cycles (answer_fields (last_says last) steps cycles ++ rest)
fields_answer last steps cycles rest =
    record {
      number_at_0 = word_there_lem (last_says last).number;
      steps_at_2 = word_there_lem steps;
      cycles_at_4 = count_there cycles.0;
      registers_at_8 = simp word_there_lem;
      zeros_at_20 = refl;
    }

pub answer_there : (last : Option Outcome) (steps : ℕ) (cycles : MCycles) (block : List ℕ) → length block ≡ 24 → StandsInBlock last steps cycles (answer_bytes last steps cycles block)
answer_there last steps cycles block same =
    subst (StandsInBlock last steps cycles) (sym (at_length 24 (answer_fields (last_says last) steps cycles) block same)) (fields_answer last steps cycles (drop 24 block))
