-- One step from a start of a window that keeps the rules, as a tree: it is fine and leaves a calm state, with PC at a start unless it takes a return.
use Rattle.std.proofs.Common.{if◌then◌else◌}
use mathlib.Core.Path.{◌≡◌, ap, subst⁻¹, ◌∙◌}
use mathlib.Core.Bool.{Bool, true, false, not}
use mathlib.Core.List.{List}
use mathlib.Core.Logic.{◌≢◌}
use Prim.Native.Nat.{ℕ, zero, suc, ◌+◌, ◌≤◌, ◌<◌}
use native.Mathlib.Omega.{arith}
use lib.Dec.{T, T_not}
use Rattle.sm83.specs.declared.Cpu.{Cpu}
use Rattle.sm83.specs.declared.HaltMode.TheVariants.{NotHalting}
use Rattle.outcome.specs.declared.Outcome.{Outcome}
use Rattle.sm83.specs.Basics.{next}
use Rattle.definition.specs.Bus.{Fetch, Ask, read, byte_at}
use Rattle.sm83.specs.State.{pc, flags, set_pc, set_ime, set_latch, set_halt}
use Rattle.opcodes.specs.Instruction.{decode, operands}
use Rattle.definition.specs.Execution.{Does, execute}
use Rattle.definition.specs.Step.{is_asleep, is_bug, step, awake, instruction, fetched, Ended, ended, step_tree}
use Rattle.routine.specs.Flow.{class_at, instruction_at, flow_at, past, ends_routine, returns}
use Rattle.routine.specs.Rules.{Start, at_first, after, Rules}
use Rattle.routine.specs.Trace.{is_fine}
use Rattle.definition.proofs.Columns.{ahead}
use Rattle.routine.proofs.Onward.{Ends, QuietParts}
use Rattle.routine.proofs.Moves.{Moves, on, jumps, back, LeftBy, weaker, execute_ends}
use Rattle.routine.proofs.Keeper.{WindowSays}

-- a calm state's step is a fetch and its instruction
abbrev body : Cpu → ℕ → Ask Ended
body s v = execute (pc s) (decode v) (set_pc (next (pc s)) s) ended

-- the other way of a test that fails
otherwise : (test : Bool) (p q : Does Ended Outcome) (s : Cpu) → test ≡ false → (if test then p else q) s ended ≡ q s ended
otherwise test p q s e = ap (λ (t : Bool). (if t then p else q) s ended) e

calm_step : (s : Cpu) → QuietParts s → step_tree s ≡ read Fetch (pc s) (body s)
unfolding step awake instruction fetched
calm_step s c =
    otherwise s.stopped _ _ s c.0
    ∙ otherwise s.hdma _ _ s c.1
    ∙ otherwise (is_asleep s.halt) _ _ s (ap is_asleep c.2)
    ∙ otherwise s.ime _ _ s c.3
    ∙ ap (λ (t : Bool). fetching (if t then set_ime true (set_latch false s) else s)) c.4
    ∙ ap (λ (t : Bool). read Fetch (pc s) (λ v. execute (pc s) (decode v) (if t then set_halt NotHalting s else set_pc (next (pc s)) s) ended)) (ap is_bug c.2)
  where
    fetching : Cpu → Ask Ended
    fetching t = read Fetch (pc t) (λ v. execute (pc t) (decode v) (fetched t) ended)

ahead_is : (k a : ℕ) → a + k < 65536 → ahead k a ≡ a + k
ahead_is zero a h = omega arith
ahead_is (suc k) a h = let e : next a ≡ a + 1 = omega arith in ap (ahead k) e ∙ ahead_is k (a + 1) (omega arith) ∙ omega arith

module _ (m : List ℕ) (first n : ℕ) where
  pub not_before : {a : ℕ} → Start m first (first + n) a → first ≤ a
  not_before (at_first h) = omega arith
  not_before (after {a} start h) = let k : first ≤ a = not_before start in omega arith

  pub within : {a : ℕ} → Start m first (first + n) a → a < first + n
  within (at_first h) = h
  within (after start h) = h

-- how a step ends that begins at s
abbrev pub StepEnds : List ℕ → ℕ → ℕ → Cpu → Ended → Type 0
StepEnds m first n s e = T (is_fine e.outcome) × QuietParts e.cpu × (T (not (returns (instruction_at m (pc s)) (flags s))) → Start m first (first + n) (pc e.cpu))

module _ (m : List ℕ) (first n : ℕ) (small : first + n ≤ 65536) (rules : Rules m first (first + n)) where
  goes_on : (a : ℕ) → Start m first (first + n) a → T (not (ends_routine (class_at m a))) → Start m first (first + n) (past m a)
  goes_on a start h =
      let fits : past m a ≤ first + n = rules.fits a start in
      let inner : past m a ≢ first + n = λ last. T_not (ends_routine (class_at m a)) h (rules.ends a start last) in
      after start (omega arith)

  arrives : (a f to : ℕ) → Start m first (first + n) a → T (not (returns (instruction_at m a) f)) → Moves (instruction_at m a) a (byte_at m (next a)) (byte_at m (next (next a))) f to → Start m first (first + n) to
  unfolding flow_at
  arrives a f to start stays (on e h) =
      let there : Start m first (first + n) (past m a) = goes_on a start h in
      let low : past m a < first + n = within m first n there in
      let here : next a ≡ a + 1 = omega arith in
      subst⁻¹ (Start m first (first + n)) (e ∙ ap (ahead (operands (instruction_at m a))) here ∙ ahead_is (operands (instruction_at m a)) (a + 1) (omega arith)) there
  arrives a f to start stays (jumps where_to) = rules.lands a to start where_to
  arrives a f to start stays (back taken) = absurd (T_not (returns (instruction_at m a) f) stays taken)

  abbrev Bytes : ℕ → ℕ → Type 0
  Bytes = WindowSays first n (byte_at m)

  executed : (s : Cpu) → QuietParts s → Start m first (first + n) (pc s) → Ends Bytes (StepEnds m first n s) (body s (byte_at m (pc s)))
  unfolding flow_at
  executed s c start =
      let a : ℕ = pc s in
      let from : first ≤ a = not_before m first n start in
      let fits : past m a ≤ first + n = rules.fits a start in
      let x : ℕ = byte_at m (next a) in
      let y : ℕ = byte_at m (next (next a)) in
      weaker Bytes (LeftBy (instruction_at m a) a x y (flags s)) (StepEnds m first n s)
      (λ e left. (left.0, left.1, λ stays. arrives a (flags s) (pc e.cpu) start stays left.2))
      (body s (byte_at m a))
      (execute_ends Bytes a x y (instruction_at m a) s c (rules.allowed a start) ((λ one v told. told (omega arith) (omega arith)), (λ two v told. told (omega arith) (omega arith))))

  pub step_ends : (s : Cpu) → QuietParts s → Start m first (first + n) (pc s) → Ends Bytes (StepEnds m first n s) (step_tree s)
  step_ends s c start =
      subst⁻¹ (Ends Bytes (StepEnds m first n s)) (calm_step s c)
      (λ v told. subst⁻¹ (λ (x : ℕ). Ends Bytes (StepEnds m first n s) (body s x)) (told (not_before m first n start) (within m first n start)) (executed s c start))
