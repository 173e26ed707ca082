-- Where PC goes from each allowed instruction, and that it leaves a calm state, whatever memory answers but for the instruction's own bytes.
use Rattle.std.proofs.Common.{if◌then◌else◌}
use mathlib.Core.Path.{◌≡◌, refl, ap, ap₂, sym, ◌∙◌}
use mathlib.Core.Bool.{Bool, true, false, not}
use mathlib.Core.Logic.{◌⊎◌, inl, inr}
use Prim.Native.Nat.{ℕ, ◌+◌, ◌%◌, ◌≤◌}
use native.Mathlib.Omega.{arith}
use lib.Dec.{eqb, T}
use Rattle.sm83.specs.declared.Cpu.{Cpu}
use Rattle.outcome.specs.declared.Outcome.{Outcome}
use Rattle.outcome.specs.declared.Outcome.TheVariants.{Normal, InfiniteLoop}
use Rattle.sm83.specs.Basics.{word, next, offset, signed}
use Rattle.definition.specs.Bus.{Ask, leaf, read, write, idle, peek, write_and_take}
use Rattle.sm83.specs.State.{pc, flags, set_pc}
use Rattle.opcodes.specs.Arithmetic.{holds}
use Rattle.opcodes.specs.Instruction.{Jump, JP-n16, JP-HL, JR-e8, CALL-n16, RET, RETI, JP-cc-n16, JR-cc-e8, CALL-cc-n16, RET-cc, RST-vec}
use Rattle.opcodes.specs.Instruction.{Instruction, does, goes, CB-prefix, HALT, STOP, EI, LD-B-B, ILLEGAL, decode_cb, operands}
use Rattle.definition.specs.Execution.{Does, work, prefixed, jump, execute, executing}
use Rattle.definition.specs.Step.{Ended, ended}
use Rattle.routine.specs.Flow.{class_of, Flow, GoesTo, GoesToOrNext, flow_of, is_forbidden, ends_routine, returns}
use Rattle.routine.specs.Trace.{is_fine}
use Rattle.definition.proofs.Columns.{ahead}
use Rattle.routine.proofs.Onward.{anything, Ends, QuietParts, LeftAt, done, prefixed_ends, work_ends}

-- from the instruction i at a, with the bytes x and y after it, at the flags f: on past it, to where it jumps, or back to the caller
pub data Moves (i : Instruction) (a x y f to : ℕ) : Type 0 where
  on : to ≡ ahead (operands i) (next a) → T (not (ends_routine (class_of i))) → Moves i a x y f to
  jumps : (flow_of (class_of i) a x y ≡ GoesTo to) ⊎ (flow_of (class_of i) a x y ≡ GoesToOrNext to) → Moves i a x y f to
  back : T (returns i f) → Moves i a x y f to

-- the end of that instruction
abbrev pub LeftBy : Instruction → ℕ → ℕ → ℕ → ℕ → Ended → Type 0
LeftBy i a x y f e = T (is_fine e.outcome) × QuietParts e.cpu × Moves i a x y f (pc e.cpu)

pub weaker : (K : ℕ → ℕ → Type 0) (P Q : Ended → Type 0) → ((e : Ended) → P e → Q e) → (p : Ask Ended) → Ends K P p → Ends K Q p
weaker K P Q so (leaf e) h = so e h
weaker K P Q so (read k a f) h = λ v told. weaker K P Q so (f v) (h v told)
weaker K P Q so (write k a v p) h = weaker anything P Q so p h
weaker K P Q so (idle p) h = weaker K P Q so p h
weaker K P Q so (peek f) h = λ v. weaker K P Q so (f v) (h v)
weaker K P Q so (write_and_take a v f) h = h

either_way : (K : ℕ → ℕ → Type 0) (Q : Ended → Type 0) (test : Bool) (p q : Does Ended Outcome) (s : Cpu) → (T test → Ends K Q (p s ended)) → Ends K Q (q s ended) → Ends K Q ((if test then p else q) s ended)
either_way K Q true p q s hp hq = hp tt
either_way K Q false p q s hp hq = hq

loop_fine : (test : Bool) → T (is_fine (if test then InfiniteLoop else Normal))
loop_fine true = tt
loop_fine false = tt

-- x and y are what reads of the instruction's own bytes answer
module _ (K : ℕ → ℕ → Type 0) (a x y : ℕ) where
  word_to : (to : ℕ → Flow) {u v : ℕ} → u ≡ x → v ≡ y → to (word y x) ≡ to (word v u)
  word_to to p q = ap₂ (λ (high low : ℕ). to (word high low)) (sym q) (sym p)

  -- "A JR target counts from the byte after the JR, modulo 65,536."
  offset_to : (to : ℕ → Flow) {u : ℕ} → u ≡ x → to (offset (a + 2) x) ≡ to (offset (next (next a)) u)
  offset_to to {u} p = ap (λ (e : ℕ). to (offset (a + 2) e)) (sym p) ∙ ap to (from_next_next (signed u))
    where
      from_next_next : (e : ℕ) → (a + 2 + e) % 65536 ≡ (next (next a) + e) % 65536
      from_next_next e = omega arith

  abbrev Told : Instruction → Type 0
  Told i = (1 ≤ operands i → (v : ℕ) → K (next a) v → v ≡ x) × (2 ≤ operands i → (v : ℕ) → K (next (next a)) v → v ≡ y)

  jump_ends : (j : Jump) (s : Cpu) → QuietParts s → T (not (is_forbidden (class_of (goes j)))) → Told (goes j) → Ends K (LeftBy (goes j) a x y (flags s)) (jump a j (set_pc (next a) s) ended)
  unfolding executing
  jump_ends JP-n16 s c h told =
      λ u p v q. (loop_fine (eqb (word v u) a), c, jumps (inl (word_to GoesTo (told.0 (omega arith) u p) (told.1 (omega arith) v q))))
  jump_ends JP-HL s c h told = absurd h
  jump_ends JR-e8 s c h told = λ u p. (loop_fine (eqb (offset (next (next a)) u) a), c, jumps (inl (offset_to GoesTo (told.0 (omega arith) u p))))
  jump_ends CALL-n16 s c h told = absurd h
  jump_ends RET s c h told = λ u p v q. (tt, c, back tt)
  jump_ends RETI s c h told = absurd h
  jump_ends (JP-cc-n16 cc) s c h told =
      λ u p v q. either_way K _ (holds cc (flags s)) _ _ _
      (λ t. (tt, c, jumps (inr (word_to GoesToOrNext (told.0 (omega arith) u p) (told.1 (omega arith) v q)))))
      (tt, c, on refl tt)
  jump_ends (JR-cc-e8 cc) s c h told =
      λ u p. either_way K _ (holds cc (flags s)) _ _ _
      (λ t. (tt, c, jumps (inr (offset_to GoesToOrNext (told.0 (omega arith) u p)))))
      (tt, c, on refl tt)
  jump_ends (CALL-cc-n16 cc) s c h told = absurd h
  jump_ends (RET-cc cc) s c h told = either_way K _ (holds cc (flags s)) _ _ _ (λ t u p v q. (tt, c, back t)) (tt, c, on refl tt)
  jump_ends (RST-vec v) s c h told = absurd h

  onward : (i : Instruction) (f : ℕ) → T (not (ends_routine (class_of i))) → (p : Ask Ended) → Ends K (LeftAt (ahead (operands i) (next a))) p → Ends K (LeftBy i a x y f) p
  onward i f goes_on = weaker K (LeftAt (ahead (operands i) (next a))) (LeftBy i a x y f) (λ e left. (left.0, left.1, on left.2 goes_on))

  pub execute_ends : (i : Instruction) (s : Cpu) → QuietParts s → T (not (is_forbidden (class_of i))) → Told i → Ends K (LeftBy i a x y (flags s)) (execute a i (set_pc (next a) s) ended)
  unfolding executing
  execute_ends (does w) s c h told = onward (does w) (flags s) tt (work w (set_pc (next a) s) done) (work_ends K w (set_pc (next a) s) c)
  execute_ends (goes j) s c h told = jump_ends j s c h told
  execute_ends CB-prefix s c h told = λ b _. onward CB-prefix (flags s) tt (prefixed (decode_cb b) (set_pc (next (next a)) s) done) (prefixed_ends K (decode_cb b) (set_pc (next (next a)) s) c refl)
  execute_ends HALT s c h told = absurd h
  execute_ends STOP s c h told = absurd h
  execute_ends EI s c h told = absurd h
  execute_ends LD-B-B s c h told = (tt, c, on refl tt)
  execute_ends ILLEGAL s c h told = absurd h
