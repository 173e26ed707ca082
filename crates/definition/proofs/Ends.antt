-- A fact of every way in which a tree may end, whatever memory answers: of the accesses on the way and of the end. It holds of the tree on every kind of memory.
use Rattle.std.specs.Prelude.{Option}
use Rattle.std.proofs.Common.{if◌then◌else◌}
use mathlib.Core.Path.{◌≡◌, refl}
use mathlib.Core.Bool.{Bool, true, false}
use mathlib.Core.List.{List, [], ◌∷◌}
use Prim.Native.Nat.{ℕ, suc}
use lib.ListN.{length}
use Rattle.sm83.specs.declared.Cpu.{Cpu}
use Rattle.outcome.specs.declared.Outcome.TheVariants.{Normal}
use Rattle.definition.specs.Bus.{Operand, Stack, Ask, leaf, read, write, idle, peek, write_and_take, Access, Read, Write, Idle, WriteAndTake, Bus, run_on}
use Rattle.sm83.specs.State.{pair_hl, pc, flags}
use Rattle.opcodes.specs.Instruction.{Reg8, rB, rC, rD, rE, rH, rL, [HL], rA}
use Rattle.definition.specs.Execution.{Does, get8, put8}
use Rattle.definition.specs.Step.{Ended, ended}
use Rattle.outcome.specs.declared.interrupt.InterruptType.{InterruptType}

abbrev pub Ends : (List Access → Ended → Type 0) → Ask Ended → Type 0
Ends P (leaf e) = P [] e
Ends P (read k a f) = (v : ℕ) → Ends (λ l e. P (Read k a ∷ l) e) (f v)
Ends P (write k a v p) = Ends (λ l e. P (Write k a v ∷ l) e) p
Ends P (idle p) = Ends (λ l e. P (Idle ∷ l) e) p
Ends P (peek f) = (i : Option InterruptType) → Ends P (f i)
Ends P (write_and_take a v f) = (i : Option InterruptType) → Ends (λ l e. P (WriteAndTake a v ∷ l) e) (f i)

pub ends_on : {W : Type 0} (b : Bus W) (P : List Access → Ended → Type 0) (p : Ask Ended) → Ends P p → (m : W) → P (run_on b p m).accesses (run_on b p m).value
unfolding run_on
ends_on b P (leaf e) h m = h
ends_on b P (read k a f) h m = ends_on b (λ l e. P (Read k a ∷ l) e) (f (b.sees m a)) (h (b.sees m a)) (b.after_read k m a)
ends_on b P (write k a v p) h m = ends_on b (λ l e. P (Write k a v ∷ l) e) p h (b.after_write k m a v)
ends_on b P (idle p) h m = ends_on b (λ l e. P (Idle ∷ l) e) p h (b.after_idle m)
ends_on b P (peek f) h m = ends_on b P (f (b.peeks m)) (h (b.peeks m)) (b.after_peek m)
ends_on b P (write_and_take a v f) h m =
    let n = b.after_write Stack m a v in
    ends_on b (λ l e. P (WriteAndTake a v ∷ l) e) (f (b.peeks n)) (h (b.peeks n)) (b.after_take n)

-- either way that a test goes
pub ends_if : {A : Type 0} (P : Bool → List Access → Ended → Type 0) (t : Bool) (p q : Does Ended A) (s : Cpu) (k : A → Cpu → Ask Ended) → Ends (P true) (p s k) → Ends (P false) (q s k) → Ends (P t) ((if t then p else q) s k)
ends_if P true p q s k holding failing = holding
ends_if P false p q s k holding failing = failing

-- A register costs nothing, [HL] one access: before a list, and in its length.

abbrev pub at_hl : Reg8 → Access → List Access → List Access
at_hl rB x l = l
at_hl rC x l = l
at_hl rD x l = l
at_hl rE x l = l
at_hl rH x l = l
at_hl rL x l = l
at_hl [HL] x l = x ∷ l
at_hl rA x l = l

abbrev pub plus_hl : Reg8 → ℕ → ℕ
plus_hl rB n = n
plus_hl rC n = n
plus_hl rD n = n
plus_hl rE n = n
plus_hl rH n = n
plus_hl rL n = n
plus_hl [HL] n = suc n
plus_hl rA n = n

pub length_at_hl : (r : Reg8) (x : Access) (l : List Access) → length (at_hl r x l) ≡ plus_hl r (length l)
length_at_hl rB x l = refl
length_at_hl rC x l = refl
length_at_hl rD x l = refl
length_at_hl rE x l = refl
length_at_hl rH x l = refl
length_at_hl rL x l = refl
length_at_hl [HL] x l = refl
length_at_hl rA x l = refl

pub ends_get : (P : List Access → Ended → Type 0) (r : Reg8) (s : Cpu) (k : ℕ → Cpu → Ask Ended) → ((v : ℕ) → Ends (λ l e. P (at_hl r (Read Operand (pair_hl s.registers)) l) e) (k v s)) → Ends P (get8 r s k)
unfolding get8
ends_get P rB s k h = h s.registers.b
ends_get P rC s k h = h s.registers.c
ends_get P rD s k h = h s.registers.d
ends_get P rE s k h = h s.registers.e
ends_get P rH s k h = h s.registers.h
ends_get P rL s k h = h s.registers.l
ends_get P [HL] s k h = h
ends_get P rA s k h = h s.registers.a

-- an instruction's last act
pub ends_put : (P : List Access → Ended → Type 0) (r : Reg8) (v : ℕ) (s : Cpu) → ((t : Cpu) → pc t ≡ pc s → flags t ≡ flags s → P (at_hl r (Write Operand (pair_hl s.registers) v) []) (record { outcome = Normal; cpu = t })) → Ends P (put8 r v s (λ u t. ended Normal t))
unfolding put8
ends_put P rB v s h = h _ refl refl
ends_put P rC v s h = h _ refl refl
ends_put P rD v s h = h _ refl refl
ends_put P rE v s h = h _ refl refl
ends_put P rH v s h = h _ refl refl
ends_put P rL v s h = h _ refl refl
ends_put P [HL] v s h = h _ refl refl
ends_put P rA v s h = h _ refl refl
