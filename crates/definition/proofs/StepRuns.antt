-- A step that runs an instruction is its fetch and its execution: no stop, no HDMA, no sleep, no interrupt.
use Rattle.std.proofs.Common.{if◌then◌else◌}
use mathlib.Core.Path.{◌≡◌, refl, ap, subst, ◌∙◌}
use mathlib.Core.Bool.{Bool, true, false, ◌&&◌}
use mathlib.Core.List.{List}
use Prim.Native.Nat.{ℕ}
use Rattle.sm83.specs.declared.Cpu.{Cpu}
use Rattle.sm83.specs.declared.HaltMode.TheVariants.{NotHalting}
use Rattle.outcome.specs.declared.Outcome.{Outcome}
use Rattle.sm83.specs.Basics.{next}
use Rattle.definition.specs.Bus.{Fetch, Read, byte_at, plain, Ask, Bus, Performed, run_on, logged}
use Rattle.outcome.specs.Interrupts.{is_pending}
use Rattle.sm83.specs.State.{pc, sp, flags, set_pc, set_ime, set_latch, set_halt}
use Rattle.opcodes.specs.Instruction.{Instruction, decode, operands}
use Rattle.definition.specs.Execution.{Does, peek, ◌>>=◌}
use Rattle.definition.specs.Step.{is_asleep, is_bug, dispatch, enabled, fetched, instruction, awake, step, Ended, ended, step_tree, Admission, admission, accepted, admitted, step_on}
use Rattle.opcodes.proofs.Choices.{if_not, if_same}
use Rattle.opcodes.proofs.FlagColumns.{flags_of}
use Rattle.definition.proofs.Cycles.{cycles_of, jumps}
use Rattle.definition.proofs.Columns.{Columns}
use Rattle.definition.proofs.ExecuteColumns.{executed, execute_columns}
use Rattle.opcodes.proofs.Illegal.{is_illegal}

-- "1. Stopped", "2. HDMA running", "3. Halted" and "4. IME set and an interrupt pending" do not apply. The EI latch may be set or clear, HaltBug may be about to end.
pub record Runs {W : Type 0} (b : Bus W) (s : Cpu) (m : W) : Type 0 where
  pub running : s.stopped ≡ false
  pub no_hdma : s.hdma ≡ false
  pub not_asleep : is_asleep s.halt ≡ false
  pub uninterrupted : (s.ime && is_pending (b.peeks m)) ≡ false

-- PC after the fetch: "HaltBug ends here and PC goes back to its value before the fetch"
abbrev pub after_fetch : Cpu → ℕ
after_fetch s = if is_bug s.halt then pc s else next (pc s)

-- Point 5 leaves what the registers and the halt tell, point 6 the flags.

enabled_as : {A : Type 0} (g : Cpu → A) (t : Bool) (s : Cpu) → g (set_ime true (set_latch false s)) ≡ g s → g (if t then set_ime true (set_latch false s) else s) ≡ g s
enabled_as g true s e = e
enabled_as g false s e = refl

fetched_is : (t : Bool) (s q : Cpu) → pc q ≡ pc s → flags q ≡ flags s → sp q ≡ sp s → (pc (if t then q else set_pc (next (pc s)) s) ≡ (if t then pc s else next (pc s))) × (flags (if t then q else set_pc (next (pc s)) s) ≡ flags s) × (sp (if t then q else set_pc (next (pc s)) s) ≡ sp s)
fetched_is true s q p f r = (p, f, r)
fetched_is false s q p f r = (refl, refl, refl)

-- the state in which the instruction is executed
pub starts : (s : Cpu) → (pc (fetched (enabled s)) ≡ after_fetch s) × (flags (fetched (enabled s)) ≡ flags s) × (sp (fetched (enabled s)) ≡ sp s)
unfolding fetched
starts s =
    let u : Cpu = enabled s in
    let h : (pc (fetched u) ≡ after_fetch u) × (flags (fetched u) ≡ flags u) × (sp (fetched u) ≡ sp u) = fetched_is (is_bug u.halt) u (set_halt NotHalting u) refl refl refl in
    (h.0 ∙ enabled_as after_fetch s.latch s refl, h.1 ∙ enabled_as flags s.latch s refl, h.2 ∙ enabled_as sp s.latch s refl)

module _ {W : Type 0} (b : Bus W) where
  -- the step, as the tree on this memory: what `step_on` answers of an accepted state
  abbrev pub stepped : Cpu → W → Performed W Ended
  stepped s m = run_on b (step_tree s) m

  pub accepted_step : (s : Cpu) (m : W) → admission b s m ≡ accepted → step_on b s m ≡ stepped s m
  unfolding step_on
  accepted_step s m e = ap (λ (x : Admission). admitted x b s m) e

  -- with IME set there was a peek before the fetch
  abbrev pub at_fetch : Cpu → W → W
  at_fetch s m = if s.ime then b.after_peek m else m

  -- the byte fetched, and the one that stands at PC then
  abbrev pub opcode : Cpu → W → ℕ
  opcode s m = b.sees (at_fetch s m) (pc s)

  abbrev pub second : Cpu → W → ℕ
  second s m = b.sees (b.after_read Fetch (at_fetch s m) (pc s)) (after_fetch s)

  -- what comes after the fetch
  abbrev pub rest : Cpu → W → Performed W Ended
  rest s m = executed b (pc s) (decode (opcode s m)) (fetched (enabled s)) (b.after_read Fetch (at_fetch s m) (pc s))

  uninterrupted_step : (t : Bool) (s : Cpu) (m : W) → (t && is_pending (b.peeks m)) ≡ false → run_on b ((if t then (peek >>= (λ i. if is_pending i then dispatch else instruction)) else instruction) s ended) m ≡ run_on b (instruction s ended) (if t then b.after_peek m else m)
  unfolding run_on
  uninterrupted_step true s m e = ap (λ (d : Does Ended Outcome). run_on b (d s ended) (b.after_peek m)) (if_not dispatch instruction e)
  uninterrupted_step false s m e = refl

  awake_step : (s : Cpu) (m : W) → Runs b s m → step_tree s ≡ awake s ended
  unfolding step
  awake_step s m r = ap (λ (d : Does Ended Outcome). d s ended) (if_not _ _ r.running ∙ if_not _ _ r.no_hdma ∙ if_not _ _ r.not_asleep)

  pub step_runs : (s : Cpu) (m : W) → Runs b s m → stepped s m ≡ logged (Read Fetch (pc s)) (rest s m)
  unfolding awake instruction run_on
  step_runs s m r =
      ap (λ (p : Ask Ended). run_on b p m) (awake_step s m r)
      ∙ uninterrupted_step s.ime s m r.uninterrupted
      ∙ ap (λ (a : ℕ). logged (Read Fetch a) (executed b a (decode (b.sees (at_fetch s m) a)) (fetched (enabled s)) (b.after_read Fetch (at_fetch s m) a))) (enabled_as pc s.latch s refl)

  -- the columns of the instruction that is fetched, from PC and F after the fetch
  abbrev Row : Cpu → W → ℕ → ℕ → Type 0
  Row s m p f =
      let i : Instruction = decode (opcode s m) in
      let y : ℕ = b.sees (b.after_read Fetch (at_fetch s m) (pc s)) p in
      Columns (cycles_of (jumps i f) i y) (operands i) (jumps i f) (is_illegal i) (flags_of i y) p f (rest s m).accesses (rest s m).value

  pub step_columns : (s : Cpu) (m : W) → Columns (cycles_of (jumps (decode (opcode s m)) (flags s)) (decode (opcode s m)) (second s m)) (operands (decode (opcode s m))) (jumps (decode (opcode s m)) (flags s)) (is_illegal (decode (opcode s m))) (flags_of (decode (opcode s m)) (second s m)) (after_fetch s) (flags s) (rest s m).accesses (rest s m).value
  step_columns s m =
      subst (λ (p : ℕ). Row s m p (flags s)) (starts s).0
      (subst (λ (f : ℕ). Row s m (pc (fetched (enabled s))) f) (starts s).1
      (execute_columns b (pc s) (decode (opcode s m)) (fetched (enabled s)) (b.after_read Fetch (at_fetch s m) (pc s))))

-- On plain memory the two bytes are those that stand there.

plain_at_fetch : (s : Cpu) (m : List ℕ) → at_fetch plain s m ≡ m
plain_at_fetch s m = if_same s.ime m

pub plain_opcode : (s : Cpu) (m : List ℕ) → opcode plain s m ≡ byte_at m (pc s)
plain_opcode s m = ap (λ (n : List ℕ). byte_at n (pc s)) (plain_at_fetch s m)

pub plain_second : (s : Cpu) (m : List ℕ) → second plain s m ≡ byte_at m (after_fetch s)
plain_second s m = ap (λ (n : List ℕ). byte_at n (after_fetch s)) (plain_at_fetch s m)
