-- What a step writes: in the words of its accesses, and by its course.
use Rattle.std.specs.Prelude.{Bool, true, false, not, ◌&&◌, ◌||◌, List, [], ◌∷◌, ℕ, ◌%◌, eqb, length, if◌then◌else◌}
use Rattle.sm83.specs.declared.Cpu.{Cpu}
use Rattle.sm83.specs.State.{pc, sp, flags}
use Rattle.outcome.specs.Interrupts.{is_pending}
use Rattle.opcodes.specs.Instruction.{decode}
use Rattle.definition.specs.Bus.{Access, Read, Write, Idle, WriteAndTake, byte_at, pending}
use Rattle.definition.specs.Step.{is_asleep, fetched}
use Rattle.watch.specs.declared.written.Written.{Written}
use Rattle.watch.specs.declared.written.Written.TheVariants.{Nothing, One, Two}
use Rattle.watch.specs.declared.course.Course.{Course}
use Rattle.watch.specs.declared.course.Course.TheVariants.{Rests, Dispatches, Executes}
use Rattle.watch.specs.Places.{place_of, pushed_from, addresses_at}

-- the addresses that a list of accesses writes, in order
abbrev pub written_by : List Access → List ℕ
written_by [] = []
written_by (Read k a ∷ l) = written_by l
written_by (Write k a v ∷ l) = a ∷ written_by l
written_by (Idle ∷ l) = written_by l
written_by (WriteAndTake a v ∷ l) = a ∷ written_by l

abbrev pub addresses_of : Written → List ℕ
addresses_of Nothing = []
addresses_of (One a) = a.0 ∷ []
addresses_of (Two a b) = a.0 ∷ b.0 ∷ []

-- the step is accepted, and points 1 to 3 let it go on
abbrev pub goes_on : Cpu → List ℕ → Bool
goes_on s m = eqb (length m) 65536 && eqb (flags s % 16) 0 && not s.stopped && not s.hdma && (not (is_asleep s.halt) || is_pending (pending m))

-- nothing more is done than an idle access, if that; or an interrupt is dispatched, point 4; or an instruction is executed, points 5 to 7
unfoldable pub course_of : Cpu → List ℕ → Course
course_of s m = if goes_on s m then (if s.ime && is_pending (pending m) then Dispatches else Executes) else Rests

-- where the instruction at PC writes; HaltBug leaves PC at the opcode
unfoldable pub instruction_writes : Cpu → List ℕ → List ℕ
instruction_writes s m = addresses_at (place_of (decode (byte_at m (pc s)))) (fetched s).registers m

abbrev pub writes_by : Course → Cpu → List ℕ → List ℕ
writes_by Rests s m = []
writes_by Dispatches s m = pushed_from (sp s)
writes_by Executes s m = instruction_writes s m

abbrev pub interrupts_by : Course → Bool
interrupts_by Rests = false
interrupts_by Dispatches = true
interrupts_by Executes = false
