-- Where a JP or a JR goes, taken or not: the jumps that refusal 10 tests; and which of them are always taken.
use Rattle.std.specs.Prelude.{Bool, true, false, ℕ, Option, Some, None}
use Rattle.sm83.specs.declared.Addr.{Addr}
use Rattle.sm83.specs.State.{addr}
use Rattle.opcodes.specs.Instruction.{decode}
use Rattle.routine.specs.Flow.{Flow, Next, Nowhere, Leaves, LeavesOrNext, GoesTo, GoesToOrNext, Calls, CallsOrNext, class_of, flow_of}

abbrev pub target_of : Flow → Option Addr
target_of Next = None
target_of Nowhere = None
target_of Leaves = None
target_of LeavesOrNext = None
target_of (GoesTo t) = Some (addr t)
target_of (GoesToOrNext t) = Some (addr t)
target_of (Calls t) = None
target_of (CallsOrNext t) = None

abbrev pub goes_only_there : Flow → Bool
goes_only_there Next = false
goes_only_there Nowhere = false
goes_only_there Leaves = false
goes_only_there LeavesOrNext = false
goes_only_there (GoesTo t) = true
goes_only_there (GoesToOrNext t) = false
goes_only_there (Calls t) = false
goes_only_there (CallsOrNext t) = false

-- JP or JR without a condition
unfoldable pub jumps_always : ℕ → Bool
jumps_always b = goes_only_there (flow_of (class_of (decode b)) 0 0 0)
