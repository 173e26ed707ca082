-- Every starred row comes out as the document prints it: one proof over the table, by computing the definition.
use mathlib.Core.Path.{◌≡◌, refl}
use mathlib.Core.List.{map}
use Rattle.definition.specs.Bus.{run_on, pending, taken}
use Rattle.opcodes.specs.Instruction.{decode, decode_cb}
use Rattle.opcodes.specs.Arithmetic.{daa}
use Rattle.definition.specs.Step.{step_on, stepping}
use Rattle.routine.specs.Flow.{flow_at}
use Rattle.routine.specs.Screen.{marks_from, walk, scan, verdict, screen}
use Rattle.rows.specs.Claim.{with_bytes, steps_of, found_of, wanted_of}
use Rattle.rows.specs.Rows.{rows}

pub all_rows : map found_of rows ≡ map wanted_of rows
unfolding rows found_of wanted_of steps_of with_bytes step_on stepping run_on pending taken decode decode_cb daa flow_at marks_from walk scan verdict screen
all_rows = refl
