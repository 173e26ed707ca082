-- What each kind of step costs, and "A step costs 1 to 8 M-cycles": for every state, on every kind of memory.
use Rattle.std.proofs.Common.{if◌then◌else◌}
use mathlib.Core.Path.{◌≡◌, refl, ap, sym, subst, ◌∙◌}
use mathlib.Core.Bool.{Bool, true, false, ◌&&◌}
use Prim.Native.Nat.{ℕ, suc, ◌+◌, ◌≤◌}
use native.Mathlib.Omega.{arith}
use lib.Dec.{leb→le, T}
use Rattle.sm83.specs.declared.Cpu.{Cpu}
use Rattle.sm83.specs.declared.HaltMode.TheVariants.{NotHalting}
use Rattle.outcome.specs.declared.Outcome.{Outcome}
use Rattle.definition.specs.Bus.{Idle, Bus, Performed, run_on, logged, mcycles}
use Rattle.outcome.specs.Interrupts.{is_pending}
use Rattle.sm83.specs.State.{flags, set_halt}
use Rattle.opcodes.specs.Instruction.{Instruction, decode}
use Rattle.definition.specs.Execution.{Does, ◌>>◌, idle}
use Rattle.definition.specs.Step.{is_asleep, awake, step, Ended, ended, admission, accepted, step_on}
use Rattle.opcodes.proofs.Choices.{by_cases, if_so, if_not, and_not}
use Rattle.definition.proofs.Cycles.{cycles_of, jumps}
use Rattle.definition.proofs.SmallCycles.{small}
use Rattle.definition.proofs.StepRuns.{Runs, stepped, accepted_step, opcode, second, step_runs, step_columns}

module _ {W : Type 0} (b : Bus W) where
  -- the M-cycles of a step
  abbrev pub cost : Cpu → W → ℕ
  cost s m = mcycles (stepped b s m).accesses

  -- 1. "Stopped: one idle access"
  pub stopped_costs_1 : (s : Cpu) (m : W) → s.stopped ≡ true → cost s m ≡ 1
  unfolding step run_on
  stopped_costs_1 s m e = ap (λ (d : Does Ended Outcome). mcycles (run_on b (d s ended) m).accesses) (if_so _ _ e)

  -- 2. "HDMA running: one idle access"
  pub hdma_costs_1 : (s : Cpu) (m : W) → s.stopped ≡ false → s.hdma ≡ true → cost s m ≡ 1
  unfolding step run_on
  hdma_costs_1 s m e h = ap (λ (d : Does Ended Outcome). mcycles (run_on b (d s ended) m).accesses) (if_not _ _ e ∙ if_so _ _ h)

  -- 3. "Halted .. one idle access. Nothing pending: outcome Halting"
  pub halted_costs_1 : (s : Cpu) (m : W) → s.stopped ≡ false → s.hdma ≡ false → is_asleep s.halt ≡ true → is_pending (b.peeks (b.after_idle m)) ≡ false → cost s m ≡ 1
  unfolding step run_on
  halted_costs_1 s m e h a i =
      ap (λ (d : Does Ended Outcome). mcycles (run_on b (d s ended) m).accesses) (if_not _ _ e ∙ if_not _ _ h ∙ if_so _ _ a)
      ∙ ap (λ (d : Does Ended Outcome). suc (mcycles (run_on b (d s ended) (b.after_peek (b.after_idle m))).accesses)) (if_not _ _ i)

  -- 4. an interrupt is dispatched: two writes and "three idle accesses"
  pub dispatch_costs_5 : (s : Cpu) (m : W) → s.stopped ≡ false → s.hdma ≡ false → is_asleep s.halt ≡ false → s.ime ≡ true → is_pending (b.peeks m) ≡ true → cost s m ≡ 5
  unfolding step awake run_on
  dispatch_costs_5 s m e h a t i =
      ap (λ (d : Does Ended Outcome). mcycles (run_on b (d s ended) m).accesses) (if_not _ _ e ∙ if_not _ _ h ∙ if_not _ _ a)
      ∙ ap (λ (d : Does Ended Outcome). mcycles (run_on b (d s ended) m).accesses) (if_so _ _ t)
      ∙ ap (λ (d : Does Ended Outcome). mcycles (run_on b (d s ended) (b.after_peek m)).accesses) (if_so _ _ i)

  -- the memory at which a halt has ended
  abbrev pub woken_memory : Cpu → W → W
  woken_memory s m = let n : W = b.after_peek (b.after_idle m) in if s.dmg then n else b.after_idle n

  -- one idle access, and one more if not DMG
  abbrev pub waking : Bool → Performed W Ended → Performed W Ended
  waking true r = logged Idle r
  waking false r = logged Idle (logged Idle r)

  woken_is : (t : Bool) (s : Cpu) (n : W) → logged Idle (run_on b ((if t then awake else (idle >> awake)) s ended) n) ≡ waking t (run_on b (awake s ended) (if t then n else b.after_idle n))
  unfolding run_on
  woken_is true s n = refl
  woken_is false s n = refl

  -- 3. "Pending: the halt ends in this very step, one more idle access if not DMG, and the step goes on": as that of the state that halts no more
  pub step_wakes : (s : Cpu) (m : W) → s.stopped ≡ false → s.hdma ≡ false → is_asleep s.halt ≡ true → is_pending (b.peeks (b.after_idle m)) ≡ true → stepped b s m ≡ waking s.dmg (stepped b (set_halt NotHalting s) (woken_memory s m))
  unfolding step run_on
  step_wakes s m e h a i =
      ap (λ (d : Does Ended Outcome). run_on b (d s ended) m) (if_not _ _ e ∙ if_not _ _ h ∙ if_so _ _ a)
      ∙ ap (λ (d : Does Ended Outcome). logged Idle (run_on b (d s ended) (b.after_peek (b.after_idle m)))) (if_so _ _ i)
      ∙ woken_is s.dmg (set_halt NotHalting s) (b.after_peek (b.after_idle m))
      ∙ sym (ap (λ (d : Does Ended Outcome). waking s.dmg (run_on b (d (set_halt NotHalting s) ended) (woken_memory s m))) (if_not _ _ e ∙ if_not _ _ h))

  waking_costs : (t : Bool) (r : Performed W Ended) → mcycles (waking t r).accesses ≡ (if t then 1 else 2) + mcycles r.accesses
  waking_costs true r = omega arith
  waking_costs false r = omega arith

  pub waking_adds : (s : Cpu) (m : W) → s.stopped ≡ false → s.hdma ≡ false → is_asleep s.halt ≡ true → is_pending (b.peeks (b.after_idle m)) ≡ true → cost s m ≡ (if s.dmg then 1 else 2) + cost (set_halt NotHalting s) (woken_memory s m)
  waking_adds s m e h a i = ap (λ (r : Performed W Ended). mcycles r.accesses) (step_wakes s m e h a i) ∙ waking_costs s.dmg _

  -- 5 to 7. the instruction's own
  pub instruction_costs : (s : Cpu) (m : W) → Runs b s m → cost s m ≡ suc (cycles_of (jumps (decode (opcode b s m)) (flags s)) (decode (opcode b s m)) (second b s m))
  instruction_costs s m r = ap (λ (x : Performed W Ended). mcycles x.accesses) (step_runs b s m r) ∙ ap suc (step_columns b s m).count

  -- between two bounds
  abbrev Within : ℕ → ℕ → ℕ → Type 0
  Within x y n = (x ≤ n) × (n ≤ y)

  instruction_within : (s : Cpu) (m : W) → Runs b s m → Within 1 6 (cost s m)
  instruction_within s m r =
      let i : Instruction = decode (opcode b s m) in
      let n : ℕ = cycles_of (jumps i (flags s)) i (second b s m) in
      let h : n ≤ 5 = leb→le n 5 (subst T (sym (small (jumps i (flags s)) (opcode b s m) (second b s m))) tt) in
      subst (Within 1 6) (sym (instruction_costs s m r)) (omega arith, omega arith)

  awake_within : (s : Cpu) (m : W) → s.stopped ≡ false → s.hdma ≡ false → is_asleep s.halt ≡ false → Within 1 6 (cost s m)
  awake_within s m e h a =
      let instruct : (s.ime && is_pending (b.peeks m)) ≡ false → Within 1 6 (cost s m) = λ u. instruction_within s m (record { running = e; no_hdma = h; not_asleep = a; uninterrupted = u }) in
      by_cases s.ime
      (λ t. by_cases (is_pending (b.peeks m))
      (λ i. subst (Within 1 6) (sym (dispatch_costs_5 s m e h a t i)) (omega arith, omega arith))
      (λ i. instruct (and_not s.ime (is_pending (b.peeks m)) i)))
      (λ t. instruct (ap (λ (x : Bool). x && is_pending (b.peeks m)) t))

  woken_within : (t : Bool) (n : ℕ) → Within 1 6 n → Within 1 8 ((if t then 1 else 2) + n)
  woken_within true n h = (omega (arith, h), omega (arith, h))
  woken_within false n h = (omega (arith, h), omega (arith, h))

  just_1 : (n : ℕ) → n ≡ 1 → Within 1 8 n
  just_1 n e = subst (Within 1 8) (sym e) (omega arith, omega arith)

  -- "A step costs 1 to 8 M-cycles."
  pub one_to_eight : (s : Cpu) (m : W) → (1 ≤ cost s m) × (cost s m ≤ 8)
  one_to_eight s m =
      by_cases s.stopped (λ e. just_1 _ (stopped_costs_1 s m e))
      (λ e. by_cases s.hdma (λ h. just_1 _ (hdma_costs_1 s m e h))
      (λ h. by_cases (is_asleep s.halt)
      (λ a. by_cases (is_pending (b.peeks (b.after_idle m)))
      (λ i. subst (Within 1 8) (sym (waking_adds s m e h a i)) (woken_within s.dmg _ (awake_within (set_halt NotHalting s) (woken_memory s m) e h refl)))
      (λ i. just_1 _ (halted_costs_1 s m e h a i)))
      (λ a. let k : Within 1 6 (cost s m) = awake_within s m e h a in (omega (arith, k), omega (arith, k)))))

  pub accepted_one_to_eight : (s : Cpu) (m : W) → admission b s m ≡ accepted → (1 ≤ mcycles (step_on b s m).accesses) × (mcycles (step_on b s m).accesses ≤ 8)
  accepted_one_to_eight s m e = subst (λ (r : Performed W Ended). Within 1 8 (mcycles r.accesses)) (sym (accepted_step b s m e)) (one_to_eight s m)
