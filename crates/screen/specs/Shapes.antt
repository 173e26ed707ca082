-- The length and class of an instruction.
use Rattle.std.specs.Prelude.{ℕ}
use Rattle.opcodes.specs.Instruction.{Instruction, length_of}
use Rattle.routine.specs.declared.Class.{Class}
use Rattle.routine.specs.Flow.{class_of}
use Rattle.screen.specs.declared.class.Shape.{Shape}

abbrev pub shaped : ℕ → Class → Shape
shaped n c = record { 0 = n; 1 = c }

abbrev pub shape_of : Instruction → Shape
shape_of i = shaped (length_of i) (class_of i)
