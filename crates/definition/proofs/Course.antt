-- The course of a step, point by point, on any kind of memory: which of the points 1 to 5 a state meets decides what is left to run.
use Rattle.std.proofs.Common.{if◌then◌else◌}
use mathlib.Core.Path.{◌≡◌, refl, ap, ◌∙◌}
use mathlib.Core.Bool.{Bool, true, false}
use mathlib.Core.List.{List, [], ◌∷◌}
use Rattle.sm83.specs.declared.Cpu.{Cpu}
use Rattle.sm83.specs.declared.HaltMode.TheVariants.{NotHalting}
use Rattle.outcome.specs.declared.Outcome.{Outcome}
use Rattle.outcome.specs.declared.Outcome.TheVariants.{Halting, RunningHDMA, Stopped}
use Rattle.definition.specs.Bus.{Access, Idle, Bus, Performed, run_on}
use Rattle.outcome.specs.Interrupts.{is_pending}
use Rattle.sm83.specs.State.{pc, set_halt}
use Rattle.definition.specs.Execution.{Does, ◌>>=◌, ◌>>◌, give, idle, peek}
use Rattle.definition.specs.Step.{is_asleep, dispatch, instruction, awake, woken, step, Ended, ended, step_tree}
use Rattle.definition.proofs.Compose.{after}

-- Point 3 let the step go on, after these accesses, with this state and memory: it was not asleep, or an interrupt was pending and ended the halt,
-- with "one more idle access if not DMG".
pub data Woke {W : Type 0} (b : Bus W) (s : Cpu) (m : W) : List Access → Cpu → W → Type 0 where
  was_awake : is_asleep s.halt ≡ false → Woke b s m [] s m
  woke_dmg : is_asleep s.halt ≡ true → is_pending (b.peeks (b.after_idle m)) ≡ true → s.dmg ≡ true → Woke b s m (Idle ∷ []) (set_halt NotHalting s) (b.after_peek (b.after_idle m))
  woke_cgb : is_asleep s.halt ≡ true → is_pending (b.peeks (b.after_idle m)) ≡ true → s.dmg ≡ false → Woke b s m (Idle ∷ Idle ∷ []) (set_halt NotHalting s) (b.after_idle (b.after_peek (b.after_idle m)))

-- Point 4 does not apply, and leaves this memory: IME is clear, or nothing is pending.
pub data Passed {W : Type 0} (b : Bus W) (s : Cpu) (m : W) : W → Type 0 where
  ime_clear : s.ime ≡ false → Passed b s m m
  none_pending : s.ime ≡ true → is_pending (b.peeks m) ≡ false → Passed b s m (b.after_peek m)

abbrev pub ended_as : {W : Type 0} → Ended → W → List Access → Performed W Ended
ended_as e m l = record { value = e; memory = m; accesses = l }

-- What the step comes to.
pub data Course {W : Type 0} (b : Bus W) (s : Cpu) (m : W) : Performed W Ended → Type 0 where
  point1 : s.stopped ≡ true → Course b s m (ended_as (record { outcome = Stopped; cpu = s }) (b.after_idle m) (Idle ∷ []))
  point2 : s.stopped ≡ false → s.hdma ≡ true → Course b s m (ended_as (record { outcome = RunningHDMA; cpu = s }) (b.after_idle m) (Idle ∷ []))
  point3 : s.stopped ≡ false → s.hdma ≡ false → is_asleep s.halt ≡ true → is_pending (b.peeks (b.after_idle m)) ≡ false → Course b s m (ended_as (record { outcome = Halting; cpu = s }) (b.after_peek (b.after_idle m)) (Idle ∷ []))
  point4 : s.stopped ≡ false → s.hdma ≡ false → (l : List Access) (t : Cpu) (w : W) → Woke b s m l t w → t.ime ≡ true → is_pending (b.peeks w) ≡ true → Course b s m (after l (run_on b (dispatch t ended) (b.after_peek w)))
  points5to7 : s.stopped ≡ false → s.hdma ≡ false → (l : List Access) (t : Cpu) (w v : W) → Woke b s m l t w → Passed b t w v → Course b s m (after l (run_on b (instruction t ended) v))

-- the definition's step from point 3, 2 and 1 on, by the answers to its questions
abbrev from3 : Bool → Does Ended Outcome
from3 a = if a then (do idle; i ← peek; if is_pending i then woken else give Halting) else awake

abbrev from2 : Bool → Bool → Does Ended Outcome
from2 h a = if h then (do idle; give RunningHDMA) else from3 a

abbrev from1 : Bool → Bool → Bool → Does Ended Outcome
from1 t h a = if t then (do idle; give Stopped) else from2 h a

module _ {W : Type 0} (b : Bus W) (s : Cpu) (m : W) where
  abbrev Runs : Does Ended Outcome → Cpu → W → List Access → Type 0
  Runs p t w l = Course b s m (after l (run_on b (p t ended) w))

  module _ (running : s.stopped ≡ false) (no_hdma : s.hdma ≡ false) where
    module _ (l : List Access) (t : Cpu) (w : W) (woke : Woke b s m l t w) where
      by_pending : (p : Bool) → t.ime ≡ true → is_pending (b.peeks w) ≡ p → Runs (if p then dispatch else instruction) t (b.after_peek w) l
      by_pending true i e = point4 running no_hdma l t w woke i e
      by_pending false i e = points5to7 running no_hdma l t w (b.after_peek w) woke (none_pending i e)

      by_ime : (i : Bool) → t.ime ≡ i → Runs (if i then (do j ← peek; if is_pending j then dispatch else instruction) else instruction) t w l
      unfolding run_on
      by_ime true e = by_pending (is_pending (b.peeks w)) e refl
      by_ime false e = points5to7 running no_hdma l t w w woke (ime_clear e)

      by_awake : Runs awake t w l
      unfolding awake
      by_awake = by_ime t.ime refl

    by_dmg : (d : Bool) → is_asleep s.halt ≡ true → is_pending (b.peeks (b.after_idle m)) ≡ true → s.dmg ≡ d → Runs (if d then awake else (do idle; awake)) (set_halt NotHalting s) (b.after_peek (b.after_idle m)) (Idle ∷ [])
    unfolding run_on
    by_dmg true a p e = by_awake (Idle ∷ []) _ _ (woke_dmg a p e)
    by_dmg false a p e = by_awake (Idle ∷ Idle ∷ []) _ _ (woke_cgb a p e)

    by_rousing : (p : Bool) → is_asleep s.halt ≡ true → is_pending (b.peeks (b.after_idle m)) ≡ p → Runs (if p then woken else give Halting) s (b.after_peek (b.after_idle m)) (Idle ∷ [])
    unfolding run_on
    by_rousing true a e = by_dmg s.dmg a e refl
    by_rousing false a e = point3 running no_hdma a e

    by_sleep : (a : Bool) → is_asleep s.halt ≡ a → Runs (from3 a) s m []
    unfolding run_on
    by_sleep true e = by_rousing (is_pending (b.peeks (b.after_idle m))) e refl
    by_sleep false e = by_awake [] s m (was_awake e)

  by_hdma : (h : Bool) → s.stopped ≡ false → s.hdma ≡ h → Runs (from2 h (is_asleep s.halt)) s m []
  unfolding run_on
  by_hdma true r e = point2 r e
  by_hdma false r e = by_sleep r e (is_asleep s.halt) refl

  by_stopped : (t : Bool) → s.stopped ≡ t → Runs (from1 t s.hdma (is_asleep s.halt)) s m []
  unfolding run_on
  by_stopped true e = point1 e
  by_stopped false e = by_hdma s.hdma e refl

  pub course : Course b s m (run_on b (step_tree s) m)
  unfolding step
  course = by_stopped s.stopped refl

-- The same, from the points that a state is known to meet.
module _ {W : Type 0} (b : Bus W) where
  -- a choice whose test is known
  chosen : (p q : Does Ended Outcome) (s : Cpu) (m : W) {x y : Bool} → x ≡ y → run_on b ((if x then p else q) s ended) m ≡ run_on b ((if y then p else q) s ended) m
  chosen p q s m e = ap (λ (z : Bool). run_on b ((if z then p else q) s ended) m) e

  from_three : (s : Cpu) (m : W) {a : Bool} → s.stopped ≡ false → s.hdma ≡ false → is_asleep s.halt ≡ a → run_on b (step_tree s) m ≡ run_on b (from3 a s ended) m
  unfolding step
  from_three s m r h a =
      chosen (do idle; give Stopped) (from2 s.hdma (is_asleep s.halt)) s m r
      ∙ chosen (do idle; give RunningHDMA) (from3 (is_asleep s.halt)) s m h
      ∙ ap (λ (z : Bool). run_on b (from3 z s ended) m) a

  roused : (s : Cpu) (m : W) {d : Bool} → is_pending (b.peeks (b.after_idle m)) ≡ true → s.dmg ≡ d → run_on b (from3 true s ended) m ≡ after (Idle ∷ []) (run_on b ((if d then awake else (do idle; awake)) (set_halt NotHalting s) ended) (b.after_peek (b.after_idle m)))
  unfolding run_on
  roused s m p d =
      ap (after (Idle ∷ [])) (chosen woken (give Halting) s (b.after_peek (b.after_idle m)) p ∙ chosen awake (do idle; awake) (set_halt NotHalting s) (b.after_peek (b.after_idle m)) d)

  pub wakes : (s : Cpu) (m : W) {l : List Access} {t : Cpu} {w : W} → s.stopped ≡ false → s.hdma ≡ false → Woke b s m l t w → run_on b (step_tree s) m ≡ after l (run_on b (awake t ended) w)
  unfolding run_on
  wakes s m r h (was_awake a) = from_three s m r h a
  wakes s m r h (woke_dmg a p d) = from_three s m r h a ∙ roused s m p d
  wakes s m r h (woke_cgb a p d) = from_three s m r h a ∙ roused s m p d

  pub passes : (t : Cpu) (w : W) {v : W} → Passed b t w v → run_on b (awake t ended) w ≡ run_on b (instruction t ended) v
  unfolding awake run_on
  passes t w (ime_clear i) = chosen (do j ← peek; if is_pending j then dispatch else instruction) instruction t w i
  passes t w (none_pending i p) =
      chosen (do j ← peek; if is_pending j then dispatch else instruction) instruction t w i ∙ chosen dispatch instruction t (b.after_peek w) p

  pub dispatches : (t : Cpu) (w : W) → t.ime ≡ true → is_pending (b.peeks w) ≡ true → run_on b (awake t ended) w ≡ run_on b (dispatch t ended) (b.after_peek w)
  unfolding awake run_on
  dispatches t w i p =
      chosen (do j ← peek; if is_pending j then dispatch else instruction) instruction t w i ∙ chosen dispatch instruction t (b.after_peek w) p

  -- waking changes the halt mode alone
  pub woke_pc : {s t : Cpu} {m w : W} {l : List Access} → Woke b s m l t w → pc t ≡ pc s
  woke_pc (was_awake a) = refl
  woke_pc (woke_dmg a p d) = refl
  woke_pc (woke_cgb a p d) = refl

  pub woke_awake : {s t : Cpu} {m w : W} {l : List Access} → Woke b s m l t w → is_asleep t.halt ≡ false
  woke_awake (was_awake a) = a
  woke_awake (woke_dmg a p d) = refl
  woke_awake (woke_cgb a p d) = refl
