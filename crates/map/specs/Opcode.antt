-- Which bytes start a jump: those that refusal 10 tests.
use Rattle.std.specs.Prelude.{Bool, false, not, ℕ}
use Rattle.opcodes.specs.Instruction.{decode}
use Rattle.routine.specs.Flow.{Flow, class_of, flow_of, jumps_where}

-- with no address marked, 10 refuses "JP or JR, conditional or not", and nothing else
abbrev pub goes_somewhere : Flow → Bool
goes_somewhere f = not (jumps_where (λ t. false) f)

-- at any address, with any two bytes after it
unfoldable pub is_jump : ℕ → Bool
is_jump b = goes_somewhere (flow_of (class_of (decode b)) 0 0 0)
