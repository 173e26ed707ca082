-- A call that is made leaves what its pending call says: it pushes the address to return to, high byte first, and SP is where the low byte lies. By computing the instruction.
use Rattle.std.proofs.Common.{if◌then◌else◌}
use mathlib.Core.Path.{◌≡◌, refl}
use mathlib.Core.Bool.{Bool, true, false}
use lib.Dec.{T}
use Rattle.sm83.specs.declared.Cpu.{Cpu}
use Rattle.outcome.specs.declared.Outcome.TheVariants.{Normal}
use Rattle.sm83.specs.Basics.{word, high_byte, low_byte, next, back}
use Rattle.definition.specs.Bus.{Operand, Stack, Ask, read, write, idle}
use Rattle.sm83.specs.State.{pc, sp, flags, set_pc, set_sp}
use Rattle.opcodes.specs.Arithmetic.{holds}
use Rattle.opcodes.specs.Instruction.{Jump, JP-n16, JP-HL, JR-e8, CALL-n16, RET, RETI, JP-cc-n16, JR-cc-e8, CALL-cc-n16, RET-cc, RST-vec}
use Rattle.opcodes.specs.Instruction.{Instruction, does, goes, CB-prefix, HALT, STOP, EI, LD-B-B, ILLEGAL}
use Rattle.definition.specs.Execution.{◌>>◌, call, normal, execute, executing}
use Rattle.definition.specs.Step.{Ended, ended}
use Rattle.routine.specs.Trace.{calls, called_from}

-- the instruction of a quiet state's step, from the fetch on
abbrev pub from_fetch : Instruction → Cpu → Ask Ended
from_fetch i s = execute (pc s) i (set_pc (next (pc s)) s) ended

-- a call to the two bytes after the opcode
abbrev pub called : Cpu → Ask Ended
called s =
    read Operand (next (pc s)) (λ x. read Operand (next (next (pc s))) (λ y. idle
    (write Stack (back (sp s)) (high_byte (called_from s).return_to)
    (write Stack (called_from s).sp (low_byte (called_from s).return_to)
    (ended Normal (set_sp (called_from s).sp (set_pc (word y x) s)))))))

where_it_holds : (s : Cpu) (t : Bool) → T t → read Operand (next (pc s)) (λ x. read Operand (next (next (pc s))) (λ y. (if t then (do call (word y x); normal) else normal) (set_pc (next (next (next (pc s)))) s) ended)) ≡ called s
unfolding executing
where_it_holds s true h = refl
where_it_holds s false h = absurd h

jump_called : (j : Jump) (s : Cpu) → T (calls (goes j) (flags s)) → from_fetch (goes j) s ≡ called s
unfolding executing
jump_called JP-n16 s h = absurd h
jump_called JP-HL s h = absurd h
jump_called JR-e8 s h = absurd h
jump_called CALL-n16 s h = refl
jump_called RET s h = absurd h
jump_called RETI s h = absurd h
jump_called (JP-cc-n16 c) s h = absurd h
jump_called (JR-cc-e8 c) s h = absurd h
jump_called (CALL-cc-n16 c) s h = where_it_holds s (holds c (flags s)) h
jump_called (RET-cc c) s h = absurd h
jump_called (RST-vec v) s h = absurd h

pub leaves_pending : (i : Instruction) (s : Cpu) → T (calls i (flags s)) → from_fetch i s ≡ called s
leaves_pending (does w) s h = absurd h
leaves_pending (goes j) s h = jump_called j s h
leaves_pending CB-prefix s h = absurd h
leaves_pending HALT s h = absurd h
leaves_pending STOP s h = absurd h
leaves_pending EI s h = absurd h
leaves_pending LD-B-B s h = absurd h
leaves_pending ILLEGAL s h = absurd h
