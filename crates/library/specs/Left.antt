-- What a call answers and leaves: the document's number, and every byte of every block. A malformed block is refused with nothing changed.
use Rattle.std.specs.Prelude.{List, ℕ, eqb, length, Option, Some, None, if◌then◌else◌}
use Rattle.sm83.specs.declared.Cpu.{Cpu}
use Rattle.sm83.specs.declared.MCycles.{MCycles}
use Rattle.definition.specs.Bus.{plain}
use Rattle.outcome.specs.Numbers.{last_number}
use Rattle.definition.specs.Run.{RunAnswer, run_for}
use Rattle.blocks.specs.StateBlock.{state_of, state_bytes}
use Rattle.blocks.specs.AnswerBlock.{answer_bytes}

-- no refusal of the document and no outcome has this number
abbrev pub malformed : ℕ
malformed = 255

pub record Left : Type 0 where
  pub number : ℕ
  pub state : List ℕ
  pub memory : List ℕ
  pub answer : List ℕ

abbrev pub left : ℕ → List ℕ → List ℕ → List ℕ → Left
left n state memory answer = record { number = n; state = state; memory = memory; answer = answer }

abbrev pub count : ℕ → MCycles
count n = record { 0 = n }

-- a run's answer, written into the blocks
abbrev pub into_blocks : RunAnswer (List ℕ) → List ℕ → List ℕ → Left
into_blocks r state answer = left (last_number r.last) (state_bytes r.cpu state) r.memory (answer_bytes r.last r.steps (count r.cycles) answer)

abbrev pub run_from : Option Cpu → ℕ → List ℕ → List ℕ → List ℕ → Left
run_from None budget state memory answer = left malformed state memory answer
run_from (Some cpu) budget state memory answer = into_blocks (run_for plain budget cpu memory) state answer

unfoldable pub run_blocks : ℕ → List ℕ → List ℕ → List ℕ → Left
run_blocks budget state memory answer = if eqb (length answer) 24 then run_from (state_of state) budget state memory answer else left malformed state memory answer
