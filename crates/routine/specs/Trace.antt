-- Demand 3's words: a processor whose memory a host may change between two steps or between two runs, the calls that have not returned, and what ends its coverage.
use Rattle.std.specs.Prelude.{◌≡◌, Bool, true, false, not, ◌&&◌, ◌||◌, List, [], ◌∷◌, ℕ, zero, suc, ◌+◌, ◌%◌, ◌≤◌, ◌<◌, eqb, leb, ltb, T, if◌then◌else◌, None, Option, Some}
use Rattle.sm83.specs.declared.Cpu.{Cpu}
use Rattle.sm83.specs.declared.HaltMode.TheVariants.{NotHalting}
use Rattle.outcome.specs.declared.Outcome.{Outcome}
use Rattle.outcome.specs.declared.Outcome.TheVariants.{Normal, InfiniteLoop, Halting, RunningHDMA, Stopped, RunningInterrupt, Breakpoint, Refused}
use Rattle.sm83.specs.Basics.{next, back}
use Rattle.definition.specs.Bus.{Bus, Performed, Access, Read, Write, Idle, WriteAndTake}
use Rattle.sm83.specs.State.{pc, sp, flags}
use Rattle.opcodes.specs.Arithmetic.{holds}
use Rattle.opcodes.specs.Instruction.{Jump, JP-n16, JP-HL, JR-e8, CALL-n16, RET, RETI, JP-cc-n16, JR-cc-e8, CALL-cc-n16, RET-cc, RST-vec}
use Rattle.opcodes.specs.Instruction.{Instruction, does, goes, CB-prefix, HALT, STOP, EI, LD-B-B, ILLEGAL, decode}
use Rattle.definition.specs.Step.{Ended, step_on}
use Rattle.definition.specs.Run.{RunAnswer, run_for}
use Rattle.routine.specs.Flow.{returns}

-- "the routine means every byte of the window"
abbrev pub in_window : ℕ → ℕ → ℕ → Bool
in_window first n a = leb first a && ltb a (first + n)

-- "A write counts if its address lies in the window, even with an equal value": no access of the list writes into it
abbrev pub spares : ℕ → ℕ → List Access → Bool
spares first n [] = true
spares first n (Read k a ∷ l) = spares first n l
spares first n (Write k a v ∷ l) = not (in_window first n a) && spares first n l
spares first n (Idle ∷ l) = spares first n l
spares first n (WriteAndTake a v ∷ l) = not (in_window first n a) && spares first n l

-- no access of the list takes an interrupt
abbrev pub takes_none : List Access → Bool
takes_none [] = true
takes_none (Read k a ∷ l) = takes_none l
takes_none (Write k a v ∷ l) = takes_none l
takes_none (Idle ∷ l) = takes_none l
takes_none (WriteAndTake a v ∷ l) = false

-- "awake means not stopped, HDMA not running and NotHalting; interrupts off means that IME is clear, whatever IE and IF hold; none being enabled means that the EI latch is clear"
pub record Quiet (s : Cpu) : Type 0 where
  pub running : s.stopped ≡ false
  pub no_hdma : s.hdma ≡ false
  pub not_halting : s.halt ≡ NotHalting
  pub off : s.ime ≡ false
  pub none_enabled : s.latch ≡ false
  pub low_bits : flags s % 16 ≡ 0

-- an outcome that is no refusal, halt, stop or interrupt. (A dispatch whose interrupt is cancelled ends Normal: so the accesses are looked at too.)
abbrev pub is_fine : Outcome → Bool
is_fine Normal = true
is_fine InfiniteLoop = true
is_fine Halting = false
is_fine RunningHDMA = false
is_fine Stopped = false
is_fine (RunningInterrupt i) = false
is_fine (Breakpoint r) = true
is_fine (Refused r) = false

abbrev pub is_fine_last : Option Outcome → Bool
is_fine_last None = true
is_fine_last (Some o) = is_fine o

-- "no step is refused, halts, stops or takes an interrupt": neither by its outcome, nor by its accesses, nor by the state that it leaves
pub record Fine {W : Type 0} (r : Performed W Ended) : Type 0 where
  pub outcome : T (is_fine r.value.outcome)
  pub none_taken : T (takes_none r.accesses)
  pub leaves_quiet : Quiet r.value.cpu

-- The calls that have not returned. The screen forbids every CALL, so that each list of them is empty today. 02, request 7, lets CALL through:
-- "Demand 3 then runs on through returns to the last pending call, on the condition that the return finds SP as that call left it and its two bytes not written since, neither by a step nor from outside. A return with nothing pending ends it".

-- where it returns to, and SP as it left it; in a list the last call comes first
pub record Pending : Type 0 where
  pub return_to : ℕ
  pub sp : ℕ

-- a call from a state: three bytes long, it pushes two
abbrev pub called_from : Cpu → Pending
called_from s = record { return_to = next (next (next (pc s))); sp = back (back (sp s)) }

abbrev pub last_returned : List Pending → List Pending
last_returned [] = []
last_returned (p ∷ l) = l

-- a call that is made at the flags f ("RST stays forbidden": it is none)
abbrev pub jump_calls : Jump → ℕ → Bool
jump_calls JP-n16 f = false
jump_calls JP-HL f = false
jump_calls JR-e8 f = false
jump_calls CALL-n16 f = true
jump_calls RET f = false
jump_calls RETI f = false
jump_calls (JP-cc-n16 c) f = false
jump_calls (JR-cc-e8 c) f = false
jump_calls (CALL-cc-n16 c) f = holds c f
jump_calls (RET-cc c) f = false
jump_calls (RST-vec v) f = false

abbrev pub calls : Instruction → ℕ → Bool
calls (does w) f = false
calls (goes j) f = jump_calls j f
calls CB-prefix f = false
calls HALT f = false
calls STOP f = false
calls EI f = false
calls LD-B-B f = false
calls ILLEGAL f = false

-- what is pending after an instruction: a call is, from now on; a return that is taken ends the last
abbrev pub pending_after : Instruction → Cpu → List Pending → List Pending
pending_after i s l = if calls i (flags s) then called_from s ∷ l else (if returns i (flags s) then last_returned l else l)

-- "finds SP as that call left it"; "with nothing pending" there is none to find
abbrev pub finds_last : Cpu → List Pending → Bool
finds_last s [] = false
finds_last s (p ∷ l) = eqb (sp s) p.sp

-- "its two bytes not written since": no access of the list writes one of them; each is a window of one byte
abbrev pub spares_pending : List Pending → List Access → Bool
spares_pending [] accesses = true
spares_pending (p ∷ l) accesses = spares p.sp 1 accesses && spares (next p.sp) 1 accesses && spares_pending l accesses

module _ {W : Type 0} (b : Bus W) where
  -- the instruction that a quiet state's step does
  abbrev pub instruction_from : Cpu → W → Instruction
  instruction_from s m = decode (b.sees m (pc s))

  -- the step from a state takes a return
  abbrev pub takes_return : Cpu → W → Bool
  takes_return s m = returns (instruction_from s m) (flags s)

  -- "until a return is taken": it takes one to the last pending call, or none; with nothing pending, none
  abbrev pub returns_home : Cpu → W → List Pending → Bool
  returns_home s m l = finds_last s l || not (takes_return s m)

  -- the second memory has the first's bytes in the window
  abbrev pub SameWindow : ℕ → ℕ → W → W → Type 0
  SameWindow first n m m' = (a : ℕ) → first ≤ a → a < first + n → b.sees m' a ≡ b.sees m a

  -- and "its two bytes", of each pending call
  abbrev pub SamePending : List Pending → W → W → Type 0
  SamePending [] m m' = Unit {0}
  SamePending (p ∷ l) m m' = SameWindow p.sp 1 m m' × SameWindow (next p.sp) 1 m m' × SamePending l m m'

  -- Step by step, where mem i is the memory before step i.
  module _ (mem : ℕ → W) (s : Cpu) where
    -- the state before step k
    unfoldable pub state_at : ℕ → Cpu
    state_at zero = s
    state_at (suc k) = (step_on b (state_at k) (mem k)).value.cpu

    -- step k
    abbrev pub step_at : ℕ → Performed W Ended
    step_at k = step_on b (state_at k) (mem k)

    -- the calls pending before step k; the list has those before the first
    unfoldable pub pending_at : List Pending → ℕ → List Pending
    pending_at l zero = l
    pending_at l (suc k) = pending_after (instruction_from (state_at k) (mem k)) (state_at k) (pending_at l k)

  -- step i takes no return but to the last pending call, and writes neither into the window nor the two bytes of a pending call
  pub record Stays (first n : ℕ) (mem : ℕ → W) (s : Cpu) (l : List Pending) (i : ℕ) : Type 0 where
    pub returns_home_lem : T (returns_home (state_at mem s i) (mem i) (pending_at mem s l i))
    pub no_write : T (spares first n (step_at mem s i).accesses)
    pub keeps_pending : T (spares_pending (pending_at mem s l i) (step_at mem s i).accesses)

  -- and before the next step a host changes what it likes, but none of these bytes
  pub record GoesOn (first n : ℕ) (mem : ℕ → W) (s : Cpu) (l : List Pending) (i : ℕ) : Type 0 where
    pub stays : Stays first n mem s l i
    pub host : SameWindow first n (step_at mem s i).memory (mem (suc i))
    pub host_pending : SamePending (pending_at mem s l (suc i)) (step_at mem s i).memory (mem (suc i))
    pub whole : b.size (mem (suc i)) ≡ 65536

  -- Within a run no host changes the memory: before step k it is what the steps before it left.
  unfoldable pub memory_at : Cpu → W → ℕ → W
  memory_at s m zero = m
  memory_at s m (suc k) = memory_at (step_on b s m).value.cpu (step_on b s m).memory k

  -- each step of a run stays, but the last may do as it likes
  abbrev pub StaysToTheLast : ℕ → ℕ → ℕ → Cpu → W → List Pending → Type 0
  StaysToTheLast first n budget s m l = (i : ℕ) → suc i < (run_for b budget s m).steps → Stays first n (memory_at s m) s l i

  -- each step of a run stays
  abbrev pub StaysToTheEnd : ℕ → ℕ → ℕ → Cpu → W → List Pending → Type 0
  StaysToTheEnd first n budget s m l = (i : ℕ) → i < (run_for b budget s m).steps → Stays first n (memory_at s m) s l i

  -- Run after run, each with a budget of its own, where mem j is the memory before run j.
  module _ (budget : ℕ → ℕ) (mem : ℕ → W) (s : Cpu) where
    -- the state before run j: what the run before it left
    unfoldable pub run_state_at : ℕ → Cpu
    run_state_at zero = s
    run_state_at (suc j) = (run_for b (budget j) (run_state_at j) (mem j)).cpu

    -- run j
    abbrev pub run_at : ℕ → RunAnswer W
    run_at j = run_for b (budget j) (run_state_at j) (mem j)

    -- the memory and the state before its step i, and that step
    abbrev pub run_memory : ℕ → ℕ → W
    run_memory j = memory_at (run_state_at j) (mem j)

    abbrev pub run_step_state : ℕ → ℕ → Cpu
    run_step_state j = state_at (run_memory j) (run_state_at j)

    abbrev pub run_step : ℕ → ℕ → Performed W Ended
    run_step j = step_at (run_memory j) (run_state_at j)

    -- the calls pending before run j; the list has those before the first
    unfoldable pub run_pending_at : List Pending → ℕ → List Pending
    run_pending_at l zero = l
    run_pending_at l (suc j) = pending_at (run_memory j) (run_state_at j) (run_pending_at l j) (run_at j).steps

  -- the same of run j
  abbrev pub RunStaysToTheLast : ℕ → ℕ → (ℕ → ℕ) → (ℕ → W) → Cpu → List Pending → ℕ → Type 0
  RunStaysToTheLast first n budget mem s l j = StaysToTheLast first n (budget j) (run_state_at budget mem s j) (mem j) (run_pending_at budget mem s l j)

  abbrev pub RunStaysToTheEnd : ℕ → ℕ → (ℕ → ℕ) → (ℕ → W) → Cpu → List Pending → ℕ → Type 0
  RunStaysToTheEnd first n budget mem s l j = StaysToTheEnd first n (budget j) (run_state_at budget mem s j) (mem j) (run_pending_at budget mem s l j)

  -- each step of run j stays, and before the next run a host changes what it likes, but none of these bytes
  pub record RunGoesOn (first n : ℕ) (budget : ℕ → ℕ) (mem : ℕ → W) (s : Cpu) (l : List Pending) (j : ℕ) : Type 0 where
    pub stays : RunStaysToTheEnd first n budget mem s l j
    pub host : SameWindow first n (run_at budget mem s j).memory (mem (suc j))
    pub host_pending : SamePending (run_pending_at budget mem s l (suc j)) (run_at budget mem s j).memory (mem (suc j))
    pub whole : b.size (mem (suc j)) ≡ 65536
