-- Every instruction keeps to its columns, for every state and on every kind of memory.
use mathlib.Core.Path.{refl, ap}
use mathlib.Core.Bool.{Bool, false}
use mathlib.Core.List.{List, ◌∷◌}
use Prim.Native.Nat.{ℕ, suc}
use Rattle.sm83.specs.declared.Cpu.{Cpu}
use Rattle.outcome.specs.declared.Outcome.TheVariants.{Normal}
use Rattle.sm83.specs.Basics.{next}
use Rattle.definition.specs.Bus.{Fetch, Ask, Bus, Performed, run_on, Access, Read}
use Rattle.sm83.specs.State.{pc, flags, set_pc}
use Rattle.opcodes.specs.Instruction.{Instruction, does, goes, CB-prefix, HALT, STOP, EI, LD-B-B, ILLEGAL, decode_cb, operands}
use Rattle.definition.specs.Execution.{work, jump, prefixed, execute, executing}
use Rattle.definition.specs.Step.{Ended, ended}
use Rattle.opcodes.specs.Published.{FlagColumn, keep}
use Rattle.definition.proofs.Ends.{Ends, ends_on, ends_if}
use Rattle.opcodes.proofs.FlagColumns.{flags_of, prefixed_flags}
use Rattle.opcodes.proofs.FlagLaws.{same_obeys}
use Rattle.definition.proofs.Cycles.{cycles_of, prefixed_cycles, jumps}
use Rattle.definition.proofs.Columns.{Columns, Onward, keeps}
use Rattle.definition.proofs.WorkColumns.{work_columns, prefixed_columns}
use Rattle.definition.proofs.JumpColumns.{jump_columns}
use Rattle.opcodes.proofs.Illegal.{is_illegal}

-- the fetch after CB before the rest
after_cb : (x : ℕ) {p f : ℕ} {l : List Access} {e : Ended} → Onward (prefixed_cycles (decode_cb x)) 0 (prefixed_flags (decode_cb x)) (next p) f l e → Onward (cycles_of false CB-prefix x) 1 (flags_of CB-prefix x) p f (Read Fetch p ∷ l) e
after_cb x c = record { count = ap suc c.count; reads = (refl, tt); onward = c.onward; changes = c.changes; answers = c.answers }

halt_columns : (at : ℕ) (s : Cpu) → Ends (Onward 0 0 keep (pc s) (flags s)) (execute at HALT s ended)
unfolding executing
halt_columns at s = ends_if (λ t. Onward 0 0 keep (pc s) (flags s)) s.ime _ _ s (λ u t. ended Normal t) (keeps refl tt refl refl) (λ i. keeps refl tt refl refl)

module _ {W : Type 0} (b : Bus W) where
  on_memory : {more k : ℕ} {jumping refused : Bool} {column : FlagColumn} {a f : ℕ} (p : Ask Ended) → Ends (Columns more k jumping refused column a f) p → (m : W) → Columns more k jumping refused column a f (run_on b p m).accesses (run_on b p m).value
  on_memory {more} {k} {jumping} {refused} {column} {a} {f} p h m = ends_on b (Columns more k jumping refused column a f) p h m

  -- what an instruction at `at` comes to, from the state after its fetch
  abbrev pub executed : ℕ → Instruction → Cpu → W → Performed W Ended
  executed at i s m = run_on b (execute at i s ended) m

  pub execute_columns : (at : ℕ) (i : Instruction) (s : Cpu) (m : W) → Columns (cycles_of (jumps i (flags s)) i (b.sees m (pc s))) (operands i) (jumps i (flags s)) (is_illegal i) (flags_of i (b.sees m (pc s))) (pc s) (flags s) (executed at i s m).accesses (executed at i s m).value
  unfolding executing run_on
  execute_columns at (does w) s m = on_memory (work w s (λ u t. ended Normal t)) (work_columns w s) m
  execute_columns at (goes j) s m = on_memory (jump at j s ended) (jump_columns at j s) m
  execute_columns at CB-prefix s m =
      let x : ℕ = b.sees m (pc s) in
      let t : Cpu = set_pc (next (pc s)) s in
      after_cb x (on_memory (prefixed (decode_cb x) t (λ u t. ended Normal t)) (prefixed_columns (decode_cb x) t) (b.after_read Fetch m (pc s)))
  execute_columns at HALT s m = on_memory (execute at HALT s ended) (halt_columns at s) m
  execute_columns at STOP s m = keeps refl tt refl refl
  execute_columns at EI s m = keeps refl tt refl refl
  execute_columns at LD-B-B s m = record { count = refl; reads = tt; onward = λ x y. refl; changes = same_obeys _ _ refl; answers = refl }
  execute_columns at ILLEGAL s m = record { count = refl; reads = tt; onward = λ x y. absurd y; changes = same_obeys _ _ refl; answers = refl }
