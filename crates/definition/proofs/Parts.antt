-- A part of an instruction is the part alone, then what comes next: so a law of its tree alone carries over.
use mathlib.Core.Path.{◌≡◌, refl, ap, ◌∙◌}
use Prim.Native.Nat.{ℕ}
use Rattle.sm83.specs.declared.Cpu.{Cpu}
use Rattle.sm83.specs.Basics.{cleared, raised, next}
use Rattle.definition.specs.Bus.{Ask, leaf, read, Operand}
use Rattle.sm83.specs.State.{pc, flags, set_pc, set_f}
use Rattle.opcodes.specs.Arithmetic.{shift_op, increment, decrement}
use Rattle.opcodes.specs.Instruction.{Reg8, rB, rC, rD, rE, rH, rL, [HL], rA, Prefixed, SHIFT-r8, BIT-u3-r8, RES-u3-r8, SET-u3-r8}
use Rattle.opcodes.specs.Instruction.{Work, NOP, DI, LD-r8-r8, LD-r8-n8, LD-r16-n16, LD-[r16]-A, LD-A-[r16], LD-[n16]-A, LD-A-[n16], LDH-[n8]-A, LDH-A-[n8], LDH-[C]-A, LDH-A-[C], LD-[n16]-SP, LD-SP-HL, LD-HL-SP+e8, ADD-SP-e8, ALU-A-r8, ALU-A-n8, ACC, INC-r8, DEC-r8, INC-r16, DEC-r16, ADD-HL-r16, PUSH-r16, POP-r16}
use Rattle.definition.specs.Execution.{get8, put8, work, prefixed, executing}
use Rattle.definition.proofs.Compose.{bind}

-- what a part leaves: its value and the state
pub record Left (A : Type 0) : Type 0 where
  pub value : A
  pub cpu : Cpu

abbrev pub left : {A : Type 0} → A → Cpu → Ask (Left A)
left a s = leaf (record { value = a; cpu = s })

abbrev pub going : {A R : Type 0} → (A → Cpu → Ask R) → Left A → Ask R
going k x = k x.value x.cpu

module _ {R S : Type 0} (then : S → Ask R) where
  -- what goes on after a part may be put after its tree
  pub get8_then : (from : Reg8) (s : Cpu) (k : ℕ → Cpu → Ask S) → get8 from s (λ v t. bind (k v t) then) ≡ bind (get8 from s k) then
  unfolding get8 bind
  get8_then rB s k = refl
  get8_then rC s k = refl
  get8_then rD s k = refl
  get8_then rE s k = refl
  get8_then rH s k = refl
  get8_then rL s k = refl
  get8_then [HL] s k = refl
  get8_then rA s k = refl

  pub put8_then : (to : Reg8) (v : ℕ) (s : Cpu) (k : Unit {0} → Cpu → Ask S) → put8 to v s (λ u t. bind (k u t) then) ≡ bind (put8 to v s k) then
  unfolding put8 bind
  put8_then rB v s k = refl
  put8_then rC v s k = refl
  put8_then rD v s k = refl
  put8_then rE v s k = refl
  put8_then rH v s k = refl
  put8_then rL v s k = refl
  put8_then [HL] v s k = refl
  put8_then rA v s k = refl

  -- a byte taken from one place, and one that it makes put into another
  get_put_then : (from to : Reg8) (made : ℕ → Cpu → ℕ) (between : ℕ → Cpu → Cpu) (s : Cpu) (k : Unit {0} → Cpu → Ask S) → get8 from s (λ v t. put8 to (made v t) (between v t) (λ u t'. bind (k u t') then)) ≡ bind (get8 from s (λ v t. put8 to (made v t) (between v t) k)) then
  get_put_then from to made between s k =
      ap (get8 from s) (λ i v t. put8_then to (made v t) (between v t) k i) ∙ get8_then from s (λ v t. put8 to (made v t) (between v t) k)

  pub work_then : (w : Work) (s : Cpu) (k : Unit {0} → Cpu → Ask S) → work w s (λ u t. bind (k u t) then) ≡ bind (work w s k) then
  unfolding executing bind
  work_then (LD-r8-r8 to from) s k = get_put_then from to (λ v t. v) (λ v t. t) s k
  work_then (LD-r8-n8 to) s k = λ i. read Operand (pc s) (λ v. put8_then to v (set_pc (next (pc s)) s) k i)
  work_then (ALU-A-r8 op from) s k = get8_then from s _
  work_then (INC-r8 to) s k = get_put_then to to (λ v t. (increment v (flags t)).value) (λ v t. set_f (increment v (flags t)).flags t) s k
  work_then (DEC-r8 to) s k = get_put_then to to (λ v t. (decrement v (flags t)).value) (λ v t. set_f (decrement v (flags t)).flags t) s k
  work_then NOP s k = refl
  work_then DI s k = refl
  work_then (LD-r16-n16 to) s k = refl
  work_then (LD-[r16]-A p) s k = refl
  work_then (LD-A-[r16] p) s k = refl
  work_then LD-[n16]-A s k = refl
  work_then LD-A-[n16] s k = refl
  work_then LDH-[n8]-A s k = refl
  work_then LDH-A-[n8] s k = refl
  work_then LDH-[C]-A s k = refl
  work_then LDH-A-[C] s k = refl
  work_then LD-[n16]-SP s k = refl
  work_then LD-SP-HL s k = refl
  work_then LD-HL-SP+e8 s k = refl
  work_then ADD-SP-e8 s k = refl
  work_then (ALU-A-n8 op) s k = refl
  work_then (ACC op) s k = refl
  work_then (INC-r16 to) s k = refl
  work_then (DEC-r16 to) s k = refl
  work_then (ADD-HL-r16 from) s k = refl
  work_then (PUSH-r16 from) s k = refl
  work_then (POP-r16 to) s k = refl

  pub prefixed_then : (p : Prefixed) (s : Cpu) (k : Unit {0} → Cpu → Ask S) → prefixed p s (λ u t. bind (k u t) then) ≡ bind (prefixed p s k) then
  unfolding executing bind
  prefixed_then (SHIFT-r8 op to) s k = get_put_then to to (λ v t. (shift_op op v (flags t)).value) (λ v t. set_f (shift_op op v (flags t)).flags t) s k
  prefixed_then (BIT-u3-r8 n from) s k = get8_then from s _
  prefixed_then (RES-u3-r8 n to) s k = get_put_then to to (λ v t. cleared n v) (λ v t. t) s k
  prefixed_then (SET-u3-r8 n to) s k = get_put_then to to (λ v t. raised n v) (λ v t. t) s k

pub work_alone : {R : Type 0} (w : Work) (s : Cpu) (k : Unit {0} → Cpu → Ask R) → work w s k ≡ bind (work w s left) (going k)
unfolding bind
work_alone w s k = work_then (going k) w s left

pub prefixed_alone : {R : Type 0} (p : Prefixed) (s : Cpu) (k : Unit {0} → Cpu → Ask R) → prefixed p s k ≡ bind (prefixed p s left) (going k)
unfolding bind
prefixed_alone p s k = prefixed_then (going k) p s left
