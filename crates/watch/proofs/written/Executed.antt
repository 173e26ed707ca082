-- Each form of instruction writes where its place says, and takes no interrupt: the definition's tree on plain memory, form by form.
use Rattle.std.proofs.Common.{if◌then◌else◌}
use mathlib.Core.Path.{◌≡◌, refl, ap, ◌∙◌}
use mathlib.Core.Bool.{Bool, true, false}
use mathlib.Core.List.{List, [], ◌∷◌}
use Prim.Native.Nat.{ℕ}
use Rattle.sm83.specs.declared.CpuRegisters.{CpuRegisters}
use Rattle.sm83.specs.declared.Cpu.{Cpu}
use Rattle.outcome.specs.declared.Outcome.{Outcome}
use Rattle.outcome.specs.declared.Outcome.TheVariants.{Normal}
use Rattle.sm83.specs.declared.HaltMode.TheVariants.{HaltRunInterrupt, HaltNoRunInterrupt, HaltBug}
use Rattle.sm83.specs.State.{pair_hl, flags, set_halt}
use Rattle.outcome.specs.Interrupts.{is_pending}
use Rattle.opcodes.specs.Arithmetic.{holds}
use Rattle.opcodes.specs.Instruction.{Reg8, rB, rC, rD, rE, rH, rL, [HL], rA, [BC], [DE], [HL+], [HL-], c_nz, c_z, c_nc, c_c}
use Rattle.opcodes.specs.Instruction.{Work, NOP, DI, LD-r8-r8, LD-r8-n8, LD-r16-n16, LD-[r16]-A, LD-A-[r16], LD-[n16]-A, LD-A-[n16], LDH-[n8]-A, LDH-A-[n8], LDH-[C]-A, LDH-A-[C], LD-[n16]-SP, LD-SP-HL, LD-HL-SP+e8, ADD-SP-e8, ALU-A-r8, ALU-A-n8, ACC, INC-r8, DEC-r8, INC-r16, DEC-r16, ADD-HL-r16, PUSH-r16, POP-r16}
use Rattle.opcodes.specs.Instruction.{Jump, JP-n16, JP-HL, JR-e8, CALL-n16, RET, RETI, JP-cc-n16, JR-cc-e8, CALL-cc-n16, RET-cc, RST-vec}
use Rattle.opcodes.specs.Instruction.{Instruction, does, goes, CB-prefix, HALT, STOP, EI, LD-B-B, ILLEGAL, Prefixed, SHIFT-r8, BIT-u3-r8, RES-u3-r8, SET-u3-r8, decode_cb}
use Rattle.instruction.specs.Holding.{check_cond}
use Rattle.definition.specs.Bus.{Access, Ask, plain, run_on}
use Rattle.definition.specs.Execution.{Does, ◌>>=◌, change, peek, get8, put8, work, jump, prefixed, execute, executing}
use Rattle.definition.specs.Step.{Ended, ended}
use Rattle.routine.specs.Trace.{takes_none}
use Rattle.watch.specs.Places.{is_hl, place_of8, place_of_work, place_of_jump, place_of, writes_hl, addresses_at}
use Rattle.watch.specs.Written.{written_by}

-- a list of accesses writes these addresses in order, and takes no interrupt
pub record Wrote (l : List ℕ) (accesses : List Access) : Type 0 where
  pub there : written_by accesses ≡ l
  pub none_taken : takes_none accesses ≡ true

abbrev quietly : {accesses : List Access} {l : List ℕ} → written_by accesses ≡ l → takes_none accesses ≡ true → Wrote l accesses
quietly e f = record { there = e; none_taken = f }

-- the accesses of a tree
abbrev pub accesses_of : Ask Ended → List ℕ → List Access
accesses_of p m = (run_on plain p m).accesses

-- reading an operand writes nothing
gets : (r : Reg8) (s : Cpu) (k : ℕ → Cpu → Ask Ended) (m l : List ℕ) → ((v : ℕ) → Wrote l (accesses_of (k v s) m)) → Wrote l (accesses_of (get8 r s k) m)
unfolding get8 run_on
gets rB s k m l h = h _
gets rC s k m l h = h _
gets rD s k m l h = h _
gets rE s k m l h = h _
gets rH s k m l h = h _
gets rL s k m l h = h _
gets [HL] s k m l h = quietly (h _).there (h _).none_taken
gets rA s k m l h = h _

-- an instruction's last act; HL is that of the registers r
puts : (to : Reg8) (v : ℕ) (s : Cpu) (r : CpuRegisters) (m : List ℕ) → pair_hl s.registers ≡ pair_hl r → Wrote (addresses_at (place_of8 to) r m) (accesses_of (put8 to v s (λ u t. ended Normal t)) m)
unfolding put8 run_on addresses_at
puts rB v s r m e = quietly refl refl
puts rC v s r m e = quietly refl refl
puts rD v s r m e = quietly refl refl
puts rE v s r m e = quietly refl refl
puts rH v s r m e = quietly refl refl
puts rL v s r m e = quietly refl refl
puts [HL] v s r m e = quietly (ap (λ (a : ℕ). a ∷ []) e) refl
puts rA v s r m e = quietly refl refl

-- the same, where the place is said by a test
puts_hl : (to : Reg8) (v : ℕ) (s : Cpu) (r : CpuRegisters) (m : List ℕ) → pair_hl s.registers ≡ pair_hl r → Wrote (if is_hl to then pair_hl r ∷ [] else []) (accesses_of (put8 to v s (λ u t. ended Normal t)) m)
unfolding put8 run_on
puts_hl rB v s r m e = quietly refl refl
puts_hl rC v s r m e = quietly refl refl
puts_hl rD v s r m e = quietly refl refl
puts_hl rE v s r m e = quietly refl refl
puts_hl rH v s r m e = quietly refl refl
puts_hl rL v s r m e = quietly refl refl
puts_hl [HL] v s r m e = quietly (ap (λ (a : ℕ). a ∷ []) e) refl
puts_hl rA v s r m e = quietly refl refl

-- a read or an idle access before the rest
pub same : {l : List ℕ} {accesses others : List Access} → written_by others ≡ written_by accesses → takes_none others ≡ takes_none accesses → Wrote l accesses → Wrote l others
same e f w = quietly (e ∙ w.there) (f ∙ w.none_taken)

work_writes : (w : Work) (s : Cpu) (m : List ℕ) → Wrote (addresses_at (place_of_work w) s.registers m) (accesses_of (work w s (λ u t. ended Normal t)) m)
unfolding executing run_on addresses_at check_cond
work_writes NOP s m = quietly refl refl
work_writes DI s m = quietly refl refl
work_writes (LD-r8-r8 to from) s m = gets from s _ m _ (λ v. puts to v s _ m refl)
work_writes (LD-r8-n8 to) s m = same refl refl (puts to _ _ s.registers m refl)
work_writes (LD-r16-n16 to) s m = quietly refl refl
work_writes (LD-[r16]-A [BC]) s m = quietly refl refl
work_writes (LD-[r16]-A [DE]) s m = quietly refl refl
work_writes (LD-[r16]-A [HL+]) s m = quietly refl refl
work_writes (LD-[r16]-A [HL-]) s m = quietly refl refl
work_writes (LD-A-[r16] p) s m = quietly refl refl
work_writes LD-[n16]-A s m = quietly refl refl
work_writes LD-A-[n16] s m = quietly refl refl
work_writes LDH-[n8]-A s m = quietly refl refl
work_writes LDH-A-[n8] s m = quietly refl refl
work_writes LDH-[C]-A s m = quietly refl refl
work_writes LDH-A-[C] s m = quietly refl refl
work_writes LD-[n16]-SP s m = quietly refl refl
work_writes LD-SP-HL s m = quietly refl refl
work_writes LD-HL-SP+e8 s m = quietly refl refl
work_writes ADD-SP-e8 s m = quietly refl refl
work_writes (ALU-A-r8 op from) s m = gets from s _ m _ (λ x. quietly refl refl)
work_writes (ALU-A-n8 op) s m = quietly refl refl
work_writes (ACC op) s m = quietly refl refl
work_writes (INC-r8 to) s m = gets to s _ m _ (λ x. puts to _ _ _ m refl)
work_writes (DEC-r8 to) s m = gets to s _ m _ (λ x. puts to _ _ _ m refl)
work_writes (INC-r16 to) s m = quietly refl refl
work_writes (DEC-r16 to) s m = quietly refl refl
work_writes (ADD-HL-r16 from) s m = quietly refl refl
work_writes (PUSH-r16 from) s m = quietly refl refl
work_writes (POP-r16 to) s m = quietly refl refl

-- after CB: the address of HL, or none
prefixed_writes : (i : Prefixed) (s : Cpu) (r : CpuRegisters) (m : List ℕ) → pair_hl s.registers ≡ pair_hl r → Wrote (if writes_hl i then pair_hl r ∷ [] else []) (accesses_of (prefixed i s (λ u t. ended Normal t)) m)
unfolding executing run_on
prefixed_writes (SHIFT-r8 op to) s r m e = gets to s _ m _ (λ x. puts_hl to _ _ r m e)
prefixed_writes (BIT-u3-r8 n from) s r m e = gets from s _ m _ (λ x. quietly refl refl)
prefixed_writes (RES-u3-r8 n to) s r m e = gets to s _ m _ (λ x. puts_hl to _ _ r m e)
prefixed_writes (SET-u3-r8 n to) s r m e = gets to s _ m _ (λ x. puts_hl to _ _ r m e)

-- a CALL that is made, or not
either : (t : Bool) (p q : Does Ended Outcome) (s : Cpu) (m l : List ℕ) → Wrote l (accesses_of (p s ended) m) → Wrote [] (accesses_of (q s ended) m) → Wrote (if t then l else []) (accesses_of ((if t then p else q) s ended) m)
either true p q s m l h k = h
either false p q s m l h k = k

neither : (t : Bool) (p q : Does Ended Outcome) (s : Cpu) (m : List ℕ) → Wrote [] (accesses_of (p s ended) m) → Wrote [] (accesses_of (q s ended) m) → Wrote [] (accesses_of ((if t then p else q) s ended) m)
neither true p q s m h k = h
neither false p q s m h k = k

jump_writes : (at : ℕ) (j : Jump) (s : Cpu) (m : List ℕ) → Wrote (addresses_at (place_of_jump j) s.registers m) (accesses_of (jump at j s ended) m)
unfolding executing run_on addresses_at check_cond
jump_writes at JP-n16 s m = quietly refl refl
jump_writes at JP-HL s m = quietly refl refl
jump_writes at JR-e8 s m = quietly refl refl
jump_writes at CALL-n16 s m = quietly refl refl
jump_writes at RET s m = quietly refl refl
jump_writes at RETI s m = quietly refl refl
jump_writes at (JP-cc-n16 c) s m = same refl refl (neither (holds c (flags s)) _ _ _ m (quietly refl refl) (quietly refl refl))
jump_writes at (JR-cc-e8 c) s m = same refl refl (neither (holds c (flags s)) _ _ _ m (quietly refl refl) (quietly refl refl))
jump_writes at (CALL-cc-n16 c_nz) s m = same refl refl (either (holds c_nz (flags s)) _ _ _ m _ (quietly refl refl) (quietly refl refl))
jump_writes at (CALL-cc-n16 c_z) s m = same refl refl (either (holds c_z (flags s)) _ _ _ m _ (quietly refl refl) (quietly refl refl))
jump_writes at (CALL-cc-n16 c_nc) s m = same refl refl (either (holds c_nc (flags s)) _ _ _ m _ (quietly refl refl) (quietly refl refl))
jump_writes at (CALL-cc-n16 c_c) s m = same refl refl (either (holds c_c (flags s)) _ _ _ m _ (quietly refl refl) (quietly refl refl))
jump_writes at (RET-cc c) s m = same refl refl (neither (holds c (flags s)) _ _ _ m (quietly refl refl) (quietly refl refl))
jump_writes at (RST-vec v) s m = quietly refl refl

-- HALT peeks if IME is clear
halts : (t : Bool) (s : Cpu) (m : List ℕ) → Wrote [] (accesses_of ((if t then change (set_halt HaltRunInterrupt) else (do i ← peek; change (set_halt (if is_pending i then HaltBug else HaltNoRunInterrupt)))) s (λ u t. ended Normal t)) m)
unfolding run_on
halts true s m = quietly refl refl
halts false s m = quietly refl refl

-- point 7, from the state after the fetch
pub execute_writes : (at : ℕ) (i : Instruction) (s : Cpu) (m : List ℕ) → Wrote (addresses_at (place_of i) s.registers m) (accesses_of (execute at i s ended) m)
unfolding executing run_on addresses_at
execute_writes at (does w) s m = work_writes w s m
execute_writes at (goes j) s m = jump_writes at j s m
execute_writes at CB-prefix s m = same refl refl (prefixed_writes (decode_cb _) _ s.registers m refl)
execute_writes at HALT s m = halts s.ime s m
execute_writes at STOP s m = quietly refl refl
execute_writes at EI s m = quietly refl refl
execute_writes at LD-B-B s m = quietly refl refl
execute_writes at ILLEGAL s m = quietly refl refl
