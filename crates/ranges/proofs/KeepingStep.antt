-- The step keeps the registers in range and asks and writes as it may. Each line follows a point of the step in the definition.
use Rattle.std.specs.Prelude.{None, Option, Some}
use Rattle.std.proofs.Common.{if◌then◌else◌}
use mathlib.Core.Bool.{Bool, true, false}
use Prim.Native.Nat.{ℕ}
use native.Mathlib.Omega.{arith}
use lib.Dec.{T}
use Rattle.sm83.specs.declared.Cpu.{Cpu}
use Rattle.sm83.specs.declared.HaltMode.TheVariants.{NotHalting}
use Rattle.outcome.specs.declared.Outcome.TheVariants.{Halting, RunningHDMA, Stopped}
use Rattle.sm83.specs.Basics.{high_byte, low_byte, next, back}
use Rattle.definition.specs.Bus.{Fetch, Stack}
use Rattle.outcome.specs.declared.interrupt.InterruptType.TheVariants.{Vblank, LcdStat, Timer, Serial, Joypad}
use Rattle.outcome.specs.Interrupts.{is_pending}
use Rattle.sm83.specs.State.{pc, sp, set_pc, set_sp, set_ime, set_latch, set_halt}
use Rattle.opcodes.specs.Instruction.{decode}
use Rattle.definition.specs.Step.{is_asleep, is_bug, entry_of, dispatched_as, store_and_take, dispatch, enabled, fetched, instruction, awake, woken, step}
use Rattle.opcodes.proofs.Tested.{at}
use Rattle.ranges.proofs.Ranged.{Ranged, ranged_pc, ranged_sp}
use Rattle.ranges.proofs.Keeping.{Byte, Place, Any, Keeps, ◌⟫=◌, ◌⟫◌, given, said, changed, loaded, stored, idled, peeked, either_keeps}
use Rattle.ranges.proofs.KeepingExecution.{vector_in_range, OutcomeRanged, execute_keeps}
use Rattle.outcome.specs.declared.interrupt.InterruptType.{InterruptType}

entry_place : (i : Option InterruptType) → Place (entry_of i)
entry_place None = omega arith
entry_place (Some Vblank) = omega arith
entry_place (Some LcdStat) = omega arith
entry_place (Some Timer) = omega arith
entry_place (Some Serial) = omega arith
entry_place (Some Joypad) = omega arith

interrupt_or_not : (i : Option InterruptType) → OutcomeRanged (dispatched_as i)
interrupt_or_not None = tt
interrupt_or_not (Some i) = tt

-- a byte names no vector out of range
decode_ranged : (b : ℕ) → Byte b → T (vector_in_range (decode b))
unfolding decode
decode_ranged b h = at (λ x. vector_in_range (decode x)) 256 tt b h

enabled_ranged : (s : Cpu) (t : Bool) → Ranged s.registers → Ranged (if t then set_ime true (set_latch false s) else s).registers
enabled_ranged s true r = r
enabled_ranged s false r = r

fetched_ranged : (s : Cpu) (t : Bool) → Ranged s.registers → Ranged (if t then set_halt NotHalting s else set_pc (next (pc s)) s).registers
fetched_ranged s true r = r
fetched_ranged s false r = ranged_pc s.registers r (next (pc s)) (omega arith)

module _ {R : Type 0} {Q : R → Type 0} where
  stored_and_taken : (a v : ℕ) → Place a → Byte v → Keeps Q Any (store_and_take a v)
  stored_and_taken a v p q = record { from = λ s k r h. (p, q, λ i. h i s tt r) }

  dispatch_keeps : Keeps Q OutcomeRanged dispatch
  dispatch_keeps =
      said ⟫= λ s hs. stored_and_taken (back (sp s)) (high_byte (pc s)) (omega arith) (omega arith) ⟫= λ i hi.
      stored Stack (back (back (sp s))) (low_byte (pc s)) (omega arith) (omega arith) ⟫ idled ⟫ idled ⟫ idled ⟫
      changed (set_sp (back (back (sp s)))) (λ t r. ranged_sp t.registers r (back (back (sp s))) (omega arith)) ⟫
      changed (set_pc (entry_of i)) (λ t r. ranged_pc t.registers r (entry_of i) (entry_place i)) ⟫
      changed (set_ime false) (λ t r. r) ⟫
      given (dispatched_as i) (interrupt_or_not i)

  instruction_keeps : Keeps Q OutcomeRanged instruction
  unfolding instruction fetched
  instruction_keeps =
      changed enabled (λ s r. enabled_ranged s s.latch r) ⟫ said ⟫= λ s hs. loaded Fetch (pc s) hs.in_pc ⟫= λ b hb.
      changed fetched (λ t r. fetched_ranged t (is_bug t.halt) r) ⟫ execute_keeps (pc s) (decode b) hs.in_pc (decode_ranged b hb)

  awake_keeps : Keeps Q OutcomeRanged awake
  unfolding awake
  awake_keeps = said ⟫= λ s hs. either_keeps s.ime (peeked ⟫= λ i hi. either_keeps (is_pending i) dispatch_keeps instruction_keeps) instruction_keeps

  woken_keeps : Keeps Q OutcomeRanged woken
  woken_keeps = changed (set_halt NotHalting) (λ s r. r) ⟫ said ⟫= λ s hs. either_keeps s.dmg awake_keeps (idled ⟫ awake_keeps)

  pub step_keeps : Keeps Q OutcomeRanged step
  unfolding step
  step_keeps =
      said ⟫= λ s hs. either_keeps s.stopped (idled ⟫ given Stopped tt)
      (either_keeps s.hdma (idled ⟫ given RunningHDMA tt)
      (either_keeps (is_asleep s.halt) (idled ⟫ peeked ⟫= λ i hi. either_keeps (is_pending i) woken_keeps (given Halting tt)) awake_keeps))
