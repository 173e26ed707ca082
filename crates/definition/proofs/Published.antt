-- "the definition is proved to agree with each column at every state": a step that runs an instruction keeps to what is published of its opcode.
use mathlib.Core.Path.{◌≡◌, refl, ap, sym, subst, ◌∙◌}
use mathlib.Core.Bool.{Bool, true, false, not}
use mathlib.Core.List.{◌∷◌}
use Prim.Native.Nat.{ℕ, suc, ◌+◌, ◌%◌, ◌<◌}
use lib.Dec.{T}
use lib.ListN.{drop}
use Rattle.sm83.specs.declared.Cpu.{Cpu}
use Rattle.outcome.specs.declared.Refusal.TheVariants.{IllegalOpcode}
use Rattle.outcome.specs.declared.Outcome.TheVariants.{Refused}
use Rattle.sm83.specs.Basics.{next, offset}
use Rattle.definition.specs.Bus.{Fetch, Read, Bus, Performed, run_on, logged, mcycles}
use Rattle.sm83.specs.State.{pc, sp, flags, set_pc}
use Rattle.opcodes.specs.Instruction.{Instruction, decode, operands, length_of}
use Rattle.definition.specs.Execution.{executing}
use Rattle.definition.specs.Step.{Ended, is_bug, enabled, fetched, admission, accepted, step_on}
use Rattle.opcodes.specs.Published.{FlagColumn, one_of, illegal_opcodes, published_bytes, published_cycles, published_flags}
use Rattle.opcodes.proofs.Choices.{if_so, if_not}
use Rattle.opcodes.proofs.FlagLaws.{Obeys}
use Rattle.definition.proofs.Cycles.{jumps}
use Rattle.definition.proofs.Columns.{Begins, ahead}
use Rattle.definition.proofs.Refused.{is_refused}
use Rattle.definition.proofs.ExecuteColumns.{executed}
use Rattle.opcodes.proofs.Illegal.{is_illegal, illegal_is, illegal_bytes}
use Rattle.definition.proofs.Agreement.{bytes_agree, cycles_agree, flags_agree}
use Rattle.definition.proofs.StepRuns.{Runs, after_fetch, starts, stepped, accepted_step, at_fetch, opcode, second, rest, step_runs, step_columns}
use Rattle.definition.proofs.Lengths.{ahead_is, ahead_next, Relative, Calling, pushed, relative_lands, calling_pushes}

-- Of the opcode that a step fetches: its published length, the address after it "modulo 65,536", and whether it jumps.

abbrev pub length_at : {W : Type 0} → Bus W → Cpu → W → ℕ
length_at b s m = published_bytes (opcode b s m)

abbrev pub end_at : {W : Type 0} → Bus W → Cpu → W → ℕ
end_at b s m = (pc s + length_at b s m) % 65536

abbrev pub jumps_at : {W : Type 0} → Bus W → Cpu → W → Bool
jumps_at b s m = jumps (decode (opcode b s m)) (flags s)

abbrev pub illegal_at : {W : Type 0} → Bus W → Cpu → W → Bool
illegal_at b s m = one_of illegal_opcodes (opcode b s m)

-- What a step from s and m came to keeps to what is published.
pub record Agreed {W : Type 0} (b : Bus W) (s : Cpu) (m : W) (r : Performed W Ended) : Type 0 where
  -- "M-cycles by the list"
  pub cycles : mcycles r.accesses ≡ published_cycles (jumps_at b s m) (opcode b s m) (second b s m)
  -- "flags by the bits"
  pub flags_change : Obeys (published_flags (opcode b s m) (second b s m)) (flags s) (flags r.value.cpu)
  -- "length by where PC ends", unless it jumps or is refused; HaltBug takes one byte off
  pub ends : is_bug s.halt ≡ false → jumps_at b s m ≡ false → illegal_at b s m ≡ false → pc r.value.cpu ≡ end_at b s m
  pub ends_bug : is_bug s.halt ≡ true → jumps_at b s m ≡ false → illegal_at b s m ≡ false → next (pc r.value.cpu) ≡ end_at b s m
  -- its bytes are read one after the other, before all else
  pub reads : is_bug s.halt ≡ false → Begins (length_at b s m) (pc s) r.accesses
  -- "A JR target counts from the byte after the JR, modulo 65,536"
  pub lands : is_bug s.halt ≡ false → Relative (decode (opcode b s m)) → jumps_at b s m ≡ true → pc r.value.cpu ≡ offset (end_at b s m) (second b s m)
  -- CALL and RST push the address after them: after the bytes and an idle access, two writes and nothing more
  pub pushes : is_bug s.halt ≡ false → Calling (decode (opcode b s m)) → jumps_at b s m ≡ true → drop (suc (length_at b s m)) r.accesses ≡ pushed (sp s) (end_at b s m)
  -- refusal 3: these opcodes and no others; PC is as before the fetch
  pub refused : r.value.outcome ≡ Refused IllegalOpcode → illegal_at b s m ≡ true
  pub refuses : illegal_at b s m ≡ true → r.value ≡ record { outcome = Refused IllegalOpcode; cpu = set_pc (pc s) (fetched (enabled s)) }

passes : {t : Bool} → t ≡ true → T t
passes e = subst T (sym e) tt

fails : {t : Bool} → t ≡ false → T (not t)
fails e = subst (λ (u : Bool). T (not u)) (sym e) tt

module _ {W : Type 0} (b : Bus W) (s : Cpu) (m : W) (byte : opcode b s m < 256) where
  -- the instruction, its execution's memory and start, and the columns that it keeps to
  abbrev i : Instruction
  i = decode (opcode b s m)

  abbrev fetched_memory : W
  fetched_memory = b.after_read Fetch (at_fetch b s m) (pc s)

  abbrev start : Cpu
  start = fetched (enabled s)

  illegal_same : is_illegal i ≡ illegal_at b s m
  illegal_same = illegal_bytes (opcode b s m) byte

  further : ahead (length_of i) (pc s) ≡ end_at b s m
  further = ahead_is (operands i) (pc s) ∙ ap (λ (k : ℕ). (pc s + k) % 65536) (bytes_agree (opcode b s m) byte)

  past : is_bug s.halt ≡ false → ahead (operands i) (after_fetch s) ≡ end_at b s m
  past e = ap (ahead (operands i)) (if_not (pc s) (next (pc s)) e) ∙ further

  onward : jumps_at b s m ≡ false → illegal_at b s m ≡ false → pc (rest b s m).value.cpu ≡ ahead (operands i) (after_fetch s)
  onward j e = (step_columns b s m).onward (fails j) (fails (illegal_same ∙ e))

  -- as the instruction starts, its condition is that of the state before
  jumps_still : jumps_at b s m ≡ true → jumps i (flags start) ≡ true
  jumps_still j = ap (jumps i) (starts s).1 ∙ j

  land : is_bug s.halt ≡ false → Relative i → jumps_at b s m ≡ true → pc (rest b s m).value.cpu ≡ offset (end_at b s m) (second b s m)
  land e r j =
      relative_lands b (pc s) i start fetched_memory r (jumps_still j)
      ∙ ap (λ (p : ℕ). offset (ahead (operands i) p) (b.sees fetched_memory p)) (starts s).0
      ∙ ap (λ (p : ℕ). offset p (second b s m)) (past e)

  push : is_bug s.halt ≡ false → Calling i → jumps_at b s m ≡ true → drop (length_of i) (rest b s m).accesses ≡ pushed (sp s) (end_at b s m)
  push e c j =
      calling_pushes b (pc s) i start fetched_memory c (jumps_still j)
      ∙ ap (λ (a : ℕ). pushed a (ahead (operands i) (pc start))) (starts s).2
      ∙ ap (λ (p : ℕ). pushed (sp s) (ahead (operands i) p)) (starts s).0
      ∙ ap (pushed (sp s)) (past e)

  refuse : illegal_at b s m ≡ true → (rest b s m).value ≡ record { outcome = Refused IllegalOpcode; cpu = set_pc (pc s) start }
  unfolding executing run_on
  refuse e = ap (λ (x : Instruction). (executed b (pc s) x start fetched_memory).value) (illegal_is i (illegal_same ∙ e))

  agreed : second b s m < 256 → Agreed b s m (logged (Read Fetch (pc s)) (rest b s m))
  agreed after =
      record {
        cycles = ap suc (step_columns b s m).count ∙ cycles_agree (jumps_at b s m) (opcode b s m) (second b s m) byte after;
        flags_change = subst (λ (c : FlagColumn). Obeys c (flags s) (flags (rest b s m).value.cpu)) (flags_agree (opcode b s m) (second b s m) byte after) (step_columns b s m).changes;
        ends = λ e j l. onward j l ∙ past e;
        ends_bug = λ e j l. ap next (onward j l ∙ ap (ahead (operands i)) (if_so (pc s) (next (pc s)) e)) ∙ sym (ahead_next (operands i) (pc s)) ∙ further;
        reads = λ e. subst (λ (k : ℕ). Begins k (pc s) (Read Fetch (pc s) ∷ (rest b s m).accesses)) (bytes_agree (opcode b s m) byte) (refl, subst (λ (p : ℕ). Begins (operands i) p (rest b s m).accesses) (if_not (pc s) (next (pc s)) e) (step_columns b s m).reads);
        lands = land;
        pushes = λ e c j. ap (λ (k : ℕ). drop k (rest b s m).accesses) (sym (bytes_agree (opcode b s m) byte)) ∙ push e c j;
        refused = λ e. sym illegal_same ∙ sym (step_columns b s m).answers ∙ ap is_refused e;
        refuses = refuse;
      }

module _ {W : Type 0} (b : Bus W) where
  -- for every state whose step runs an instruction and every memory that shows it bytes
  pub step_agrees : (s : Cpu) (m : W) → Runs b s m → opcode b s m < 256 → second b s m < 256 → Agreed b s m (stepped b s m)
  step_agrees s m runs byte after = subst (Agreed b s m) (sym (step_runs b s m runs)) (agreed b s m byte after)

  -- the same of what a step answers
  pub accepted_step_agrees : (s : Cpu) (m : W) → admission b s m ≡ accepted → Runs b s m → opcode b s m < 256 → second b s m < 256 → Agreed b s m (step_on b s m)
  accepted_step_agrees s m e runs byte after = subst (Agreed b s m) (sym (accepted_step b s m e)) (step_agrees s m runs byte after)
