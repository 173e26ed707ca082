-- What the code answers of the middle of an instruction.
use Rattle.std.specs.Prelude.{ℕ, ◌+◌, ◌%◌}
use Rattle.outcome.specs.declared.Outcome.{Outcome}
use Rattle.outcome.specs.declared.Outcome.TheVariants.{Normal}
use Rattle.sm83.specs.declared.Cpu.{Cpu}
use Rattle.sm83.specs.Basics.{low_byte}
use Rattle.sm83.specs.State.{sp, set_f}
use Rattle.opcodes.specs.Arithmetic.{offset_flags}
use Rattle.bus.specs.declared.Port.{Port}
use Rattle.bus.specs.declared.Left.{Left}
use Rattle.execution.specs.declared.Made.{Made}

abbrev pub worked : Cpu → Port → ℕ → Outcome → Left Made
worked s port v o = record { cpu = s; port = port; value = record { value = v; outcome = o } }

abbrev pub offset_by : Cpu → Port → ℕ → Left Made
offset_by s port v = worked (set_f (offset_flags (sp s) (low_byte v)) s) port ((sp s + v) % 65536) Normal
