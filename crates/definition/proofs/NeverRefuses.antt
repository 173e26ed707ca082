-- No instruction but an illegal opcode ends in a refusal, whatever memory answers.
use Rattle.std.specs.Prelude.{Option}
use Rattle.std.proofs.Common.{if◌then◌else◌}
use mathlib.Core.Path.{sym, subst}
use mathlib.Core.Bool.{Bool, true, false, not}
use Prim.Native.Nat.{ℕ}
use lib.Dec.{eqb, T}
use Rattle.sm83.specs.declared.Cpu.{Cpu}
use Rattle.outcome.specs.declared.Outcome.{Outcome}
use Rattle.outcome.specs.declared.Outcome.TheVariants.{Normal, InfiniteLoop}
use Rattle.sm83.specs.declared.HaltMode.TheVariants.{HaltRunInterrupt, HaltNoRunInterrupt, HaltBug}
use Rattle.sm83.specs.Basics.{word, next, offset}
use Rattle.definition.specs.Bus as bus
use Rattle.definition.specs.Bus.{Ask, leaf, read, write, idle, write_and_take, Stack, Bus, run_on}
use Rattle.outcome.specs.Interrupts.{is_pending}
use Rattle.opcodes.specs.Arithmetic.{holds}
use Rattle.sm83.specs.State.{pc, flags, pair_hl, set_halt}
use Rattle.opcodes.specs.Instruction.{Jump, JP-n16, JP-HL, JR-e8, CALL-n16, RET, RETI, JP-cc-n16, JR-cc-e8, CALL-cc-n16, RET-cc, RST-vec}
use Rattle.opcodes.specs.Instruction.{Instruction, does, goes, CB-prefix, HALT, STOP, EI, LD-B-B, ILLEGAL, decode_cb}
use Rattle.definition.specs.Execution.{Does, ◌>>=◌, change, peek, byte_at_pc, work, prefixed, jump, execute, executing}
use Rattle.definition.specs.Step.{Ended, ended}
use Rattle.definition.proofs.Refused.{is_refused}
use Rattle.definition.proofs.Compose.{bind}
use Rattle.definition.proofs.Parts.{left, work_alone, prefixed_alone}
use Rattle.opcodes.proofs.Illegal.{is_illegal}
use Rattle.outcome.specs.declared.interrupt.InterruptType.{InterruptType}

-- no end is a refusal
abbrev pub Never : Ask Ended → Type 0
Never (leaf e) = T (not (is_refused e.outcome))
Never (read k a f) = (v : ℕ) → Never (f v)
Never (write k a v p) = Never p
Never (idle p) = Never p
Never (bus.peek f) = (i : Option InterruptType) → Never (f i)
Never (write_and_take a v f) = (i : Option InterruptType) → Never (f i)

pub never_run : {W : Type 0} (b : Bus W) (p : Ask Ended) (m : W) → Never p → T (not (is_refused (run_on b p m).value.outcome))
unfolding run_on
never_run b (leaf e) m h = h
never_run b (read k a f) m h = never_run b (f (b.sees m a)) (b.after_read k m a) (h (b.sees m a))
never_run b (write k a v p) m h = never_run b p (b.after_write k m a v) h
never_run b (idle p) m h = never_run b p (b.after_idle m) h
never_run b (bus.peek f) m h = never_run b (f (b.peeks m)) (b.after_peek m) (h (b.peeks m))
never_run b (write_and_take a v f) m h =
    never_run b (f (b.peeks (b.after_write Stack m a v))) (b.after_take (b.after_write Stack m a v)) (h (b.peeks (b.after_write Stack m a v)))

-- a part does not end the step: what comes after it does
never_then : {A : Type 0} (p : Ask A) (f : A → Ask Ended) → ((a : A) → Never (f a)) → Never (bind p f)
unfolding bind
never_then (leaf a) f h = h a
never_then (read k a g) f h = λ v. never_then (g v) f h
never_then (write k a v p) f h = never_then p f h
never_then (idle p) f h = never_then p f h
never_then (bus.peek g) f h = λ i. never_then (g i) f h
never_then (write_and_take a v g) f h = λ i. never_then (g i) f h

pub never_either : (t : Bool) (p q : Does Ended Outcome) (s : Cpu) → Never (p s ended) → Never (q s ended) → Never ((if t then p else q) s ended)
never_either true p q s hp hq = hp
never_either false p q s hp hq = hq

never_loop : (t : Bool) → T (not (is_refused (if t then InfiniteLoop else Normal)))
never_loop true = tt
never_loop false = tt

jump_never : (at : ℕ) (j : Jump) (s : Cpu) → Never (jump at j s ended)
unfolding executing
jump_never at JP-n16 s = λ x y. never_loop (eqb (word y x) at)
jump_never at JP-HL s = never_loop (eqb (pair_hl s.registers) at)
jump_never at JR-e8 s = λ x. never_loop (eqb (offset (next (pc s)) x) at)
jump_never at CALL-n16 s = λ x y. tt
jump_never at RET s = λ x y. tt
jump_never at RETI s = λ x y. tt
jump_never at (JP-cc-n16 c) s = λ x y. never_either (holds c (flags s)) _ _ _ tt tt
jump_never at (JR-cc-e8 c) s = λ x. never_either (holds c (flags s)) _ _ _ tt tt
jump_never at (CALL-cc-n16 c) s = λ x y. never_either (holds c (flags s)) _ _ _ tt tt
jump_never at (RET-cc c) s = never_either (holds c (flags s)) _ _ _ (λ x y. tt) tt
jump_never at (RST-vec v) s = tt

halt_never : (t : Bool) (s : Cpu) → Never ((if t then change (set_halt HaltRunInterrupt) else (do i ← peek; change (set_halt (if is_pending i then HaltBug else HaltNoRunInterrupt)))) s (λ u t'. ended Normal t'))
halt_never true s = tt
halt_never false s = λ i. tt

pub execute_never : (at : ℕ) (i : Instruction) (s : Cpu) → T (not (is_illegal i)) → Never (execute at i s ended)
unfolding execute byte_at_pc
execute_never at (does w) s h = subst Never (sym (work_alone w s (λ u. ended Normal))) (never_then (work w s left) _ (λ x. tt))
execute_never at (goes j) s h = jump_never at j s
execute_never at CB-prefix s h =
    λ x. subst Never (sym (prefixed_alone (decode_cb x) _ (λ u. ended Normal))) (never_then (prefixed (decode_cb x) _ left) _ (λ y. tt))
execute_never at HALT s h = halt_never s.ime s
execute_never at STOP s h = tt
execute_never at EI s h = tt
execute_never at LD-B-B s h = tt
execute_never at ILLEGAL s h = absurd h
