-- One step, in the document's seven points, and what it answers on any kind of memory.
use Rattle.std.specs.Prelude.{Bool, true, false, [], ◌∷◌, ℕ, ◌%◌, eqb, get_or, if◌then◌else◌, None, Option, Some}
use Rattle.sm83.specs.declared.Cpu.{Cpu}
use Rattle.sm83.specs.declared.HaltMode.{HaltMode}
use Rattle.sm83.specs.declared.HaltMode.TheVariants.{NotHalting, HaltRunInterrupt, HaltNoRunInterrupt, HaltBug}
use Rattle.outcome.specs.declared.interrupt.InterruptType.{InterruptType}
use Rattle.outcome.specs.Interrupts.{interrupt_number, is_pending}
use Rattle.outcome.specs.declared.Refusal.{Refusal}
use Rattle.outcome.specs.declared.Refusal.TheVariants.{MemoryLength, LowBitsOfF}
use Rattle.outcome.specs.declared.Outcome.{Outcome}
use Rattle.outcome.specs.declared.Outcome.TheVariants.{Normal, Halting, RunningHDMA, Stopped, RunningInterrupt, Refused}
use Rattle.sm83.specs.Basics.{high_byte, low_byte, next, back}
use Rattle.definition.specs.Bus.{Fetch, Stack, Ask, leaf, write_and_take, Bus, Performed, run_on}
use Rattle.sm83.specs.State.{pc, sp, flags, set_pc, set_sp, set_ime, set_latch, set_halt}
use Rattle.opcodes.specs.Instruction.{decode}
use Rattle.definition.specs.Execution.{Does, ◌>>=◌, ◌>>◌, give, state, change, load, store, idle, peek, execute, executing}

-- "Halted (HaltRunInterrupt or HaltNoRunInterrupt)"
abbrev pub is_asleep : HaltMode → Bool
is_asleep NotHalting = false
is_asleep HaltRunInterrupt = true
is_asleep HaltNoRunInterrupt = true
is_asleep HaltBug = false

abbrev pub is_bug : HaltMode → Bool
is_bug NotHalting = false
is_bug HaltRunInterrupt = false
is_bug HaltNoRunInterrupt = false
is_bug HaltBug = true

-- "the five vectors 0x40, 0x48, 0x50, 0x58, 0x60"
abbrev pub vector : InterruptType → ℕ
vector i = get_or (0x40 ∷ 0x48 ∷ 0x50 ∷ 0x58 ∷ 0x60 ∷ []) (interrupt_number i) 0

-- "PC is its vector .. If none is left, PC is 0"
abbrev pub entry_of : Option InterruptType → ℕ
entry_of None = 0
entry_of (Some i) = vector i

-- "the outcome RunningInterrupt with its number. If none is left .. the outcome is Normal."
abbrev pub dispatched_as : Option InterruptType → Outcome
dispatched_as None = Normal
dispatched_as (Some i) = RunningInterrupt i

-- "write PC's high byte, peek again and take"
abbrev pub store_and_take : {R : Type 0} → ℕ → ℕ → Does R (Option InterruptType)
store_and_take a v = λ s k. write_and_take a v (λ i. k i s)

-- 4. "SP less 1, write PC's high byte, peek again and take; PC is its vector .. IME is cleared. SP less 1, write the old PC's low byte, three idle accesses."
abbrev pub dispatch : {R : Type 0} → Does R Outcome
dispatch = do
  s ← state
  i ← store_and_take (back (sp s)) (high_byte (pc s))
  store Stack (back (back (sp s))) (low_byte (pc s))
  idle
  idle
  idle
  change (set_sp (back (back (sp s))))
  change (set_pc (entry_of i))
  change (set_ime false)
  give (dispatched_as i)

-- 5. "If the EI latch is set: IME set, latch cleared."
abbrev pub enabled : Cpu → Cpu
enabled s = if s.latch then set_ime true (set_latch false s) else s

-- 6. "HaltBug ends here and PC goes back to its value before the fetch."
unfoldable pub fetched : Cpu → Cpu
fetched s = if is_bug s.halt then set_halt NotHalting s else set_pc (next (pc s)) s

-- 5, 6 and 7
unfoldable pub instruction : {R : Type 0} → Does R Outcome
instruction = do
  change enabled
  s ← state
  b ← load Fetch (pc s)
  change fetched
  execute (pc s) (decode b)

-- 4, or 5 to 7
unfoldable pub awake : {R : Type 0} → Does R Outcome
awake = do
  s ← state
  if s.ime then (do i ← peek; if is_pending i then dispatch else instruction) else instruction

-- 3. "Pending: the halt ends in this very step, one more idle access if not DMG, and the step goes on."
abbrev pub woken : {R : Type 0} → Does R Outcome
woken = do
  change (set_halt NotHalting)
  s ← state
  if s.dmg then awake else (do idle; awake)

-- 3, or 4 to 7, from this state. "Halted (HaltRunInterrupt or HaltNoRunInterrupt): one idle access."
abbrev pub unless_asleep : {R : Type 0} → Cpu → Does R Outcome
unless_asleep s = if is_asleep s.halt then (do idle; i ← peek; if is_pending i then woken else give Halting) else awake

-- 1, 2, or 3 to 7
unfoldable pub step : {R : Type 0} → Does R Outcome
step = do
  s ← state
  if s.stopped then (do idle; give Stopped) else (if s.hdma then (do idle; give RunningHDMA) else unless_asleep s)

-- How a step ends.
pub record Ended : Type 0 where
  pub outcome : Outcome
  pub cpu : Cpu

abbrev pub ended : Outcome → Cpu → Ask Ended
ended o s = leaf (record { outcome = o; cpu = s })

-- The step as a tree.
abbrev pub step_tree : Cpu → Ask Ended
step_tree s = step s ended

-- "Step and run test 1, then 2": what admits a state, or why it is refused.
pub data Admission : Type 0 where
  accepted : Admission
  refused_as : Refusal → Admission

abbrev pub admission : {W : Type 0} → Bus W → Cpu → W → Admission
admission b s m = if eqb (b.size m) 65536 then (if eqb (flags s % 16) 0 then accepted else refused_as LowBitsOfF) else refused_as MemoryLength

-- 1 and 2 leave "state, bytes and marks as they came, 0 M-cycles"
abbrev pub unchanged : {W : Type 0} → Refusal → Cpu → W → Performed W Ended
unchanged r s m = record { value = record { outcome = Refused r; cpu = s }; memory = m; accesses = [] }

abbrev pub admitted : {W : Type 0} → Admission → Bus W → Cpu → W → Performed W Ended
admitted accepted b s m = run_on b (step_tree s) m
admitted (refused_as r) b s m = unchanged r s m

-- What a step answers, for every state and every memory.
unfoldable pub step_on : {W : Type 0} → Bus W → Cpu → W → Performed W Ended
step_on b s m = admitted (admission b s m) b s m

-- a proof that says `unfolding stepping` opens the step and all that it executes
unfoldable pub stepping : ℕ
unfolding executing step awake instruction fetched
stepping = 0
