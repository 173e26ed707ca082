-- Points 1 to 4: what the callees answer comes to the definition's step, one law for each way through it.
use Rattle.std.specs.Prelude.{Option}
use Rattle.std.proofs.Common.{if◌then◌else◌}
use mathlib.Core.Path.{◌≡◌, refl, ap, sym, ◌∙◌}
use mathlib.Core.Bool.{Bool, true, false}
use mathlib.Core.List.{List}
use Prim.Native.Nat.{ℕ}
use Rattle.sm83.specs.declared.Cpu.{Cpu}
use Rattle.sm83.specs.declared.HaltMode.TheVariants.{NotHalting}
use Rattle.outcome.specs.declared.Outcome.{Outcome}
use Rattle.outcome.specs.declared.Outcome.TheVariants.{Halting, Stopped, RunningHDMA}
use Rattle.sm83.specs.Basics.{back, high_byte, low_byte}
use Rattle.definition.specs.Bus as bus
use Rattle.definition.specs.Bus.{Stack, Ask, write}
use Rattle.outcome.specs.Interrupts.{is_pending}
use Rattle.sm83.specs.State.{pc, sp, set_pc, set_sp, set_ime, set_halt}
use Rattle.definition.specs.Execution.{Does, ◌>>=◌, ◌>>◌, give, idle, peek}
use Rattle.definition.specs.Step.{Ended, is_asleep, entry_of, dispatched_as, dispatch, instruction, awake, woken, unless_asleep, step}
use Rattle.opcodes.proofs.Choices.{if_so, if_not}
use Rattle.bus.specs.declared.Port.{Port}
use Rattle.bus.specs.World.{World, world, leads, Looks, Writes, Idles, Peeks, Takes}
use Rattle.bus.specs.Leads.{Leads, LeadsTo}
use Rattle.step.specs.Stages.{after_halt, interrupted}
use Rattle.outcome.specs.declared.interrupt.InterruptType.{InterruptType}

-- what is chosen leads where the choice leads
so : (b : Bool) (p q : Does Ended Outcome) (s : Cpu) (k : Outcome → Cpu → Ask Ended) (w : World) → b ≡ true → leads ((if b then p else q) s k) w ≡ leads (p s k) w
so b p q s k w e = ap (λ (d : Does Ended Outcome). leads (d s k) w) (if_so p q e)

not_so : (b : Bool) (p q : Does Ended Outcome) (s : Cpu) (k : Outcome → Cpu → Ask Ended) (w : World) → b ≡ false → leads ((if b then p else q) s k) w ≡ leads (q s k) w
not_so b p q s k w e = ap (λ (d : Does Ended Outcome). leads (d s k) w) (if_not p q e)

-- 4. "SP less 1, write PC's high byte, peek again and take .."
pub dispatches : (s : Cpu) (port p q t u v : Port) (m m1 m2 m3 m4 m5 : List ℕ) (first second : ℕ) (i : Option InterruptType) (to : ℕ) (o : Outcome) →
    first ≡ back (sp s) → Takes first (high_byte (pc s)) port m i p m1 → second ≡ back first → Writes Stack second (low_byte (pc s)) p m1 q m2 →
    Idles q m2 t m3 → Idles t m3 u m4 → Idles u m4 v m5 → to ≡ entry_of i → o ≡ dispatched_as i →
    Leads dispatch s port m o (set_ime false (set_pc to (set_sp second s))) v m5
dispatches s port p q t u v m m1 m2 m3 m4 m5 first second i to o e1 h1 e2 h2 h3 h4 h5 e3 e4 k =
    simp (e4, e3, ← e1, ← e2) (h1.there (λ x. write Stack second (low_byte (pc s)) (rest x)) ∙ h2.there (rest i) ∙ h3.there _ ∙ h4.there _ ∙ h5.there _)
  where
    -- the three bus.idle accesses, and where the step ends
    rest : Option InterruptType → Ask Ended
    rest x = bus.idle (bus.idle (bus.idle (k (dispatched_as x) (set_ime false (set_pc (entry_of x) (set_sp second s))))))

-- 4, or 5 to 7: by one test
awakes : (s : Cpu) (k : Outcome → Cpu → Ask Ended) → awake s k ≡ interrupted s.ime (λ c. (if c then dispatch else instruction) s k)
unfolding awake
awakes s k = by_ime s.ime
  where
    by_ime : (b : Bool) → (if b then (peek >>= (λ i. if is_pending i then dispatch else instruction)) else instruction) s k ≡ interrupted b (λ c. (if c then dispatch else instruction) s k)
    by_ime true = refl
    by_ime false = refl

module _ (s t : Cpu) (port port' : Port) (m m1 m2 : List ℕ) (o : Outcome) (calls : Bool) (look : Looks (interrupted s.ime) m calls m1) where
  looked : LeadsTo awake s port m (if calls then dispatch else instruction) s port m1
  looked k = ap (λ (p : Ask Ended). leads p (world port m)) (awakes s k) ∙ look.there port (λ c. (if c then dispatch else instruction) s k)

  pub awake_dispatches : calls ≡ true → Leads dispatch s port m1 o t port' m2 → Leads awake s port m o t port' m2
  awake_dispatches c l k = looked k ∙ so _ dispatch instruction s k (world port m1) c ∙ l k

  pub awake_runs : calls ≡ false → Leads instruction s port m1 o t port' m2 → Leads awake s port m o t port' m2
  awake_runs c l k = looked k ∙ not_so _ dispatch instruction s k (world port m1) c ∙ l k

-- 3. "Halted .. one bus.idle access."
module _ (s : Cpu) (port : Port) (m : List ℕ) (asleep : Bool) (e : asleep ≡ is_asleep s.halt) where
  pub not_asleep : asleep ≡ false → LeadsTo (unless_asleep s) s port m (after_halt false) s port m
  not_asleep a k = not_so _ _ awake s k (world port m) (sym e ∙ a)

  module _ (p : Port) (m1 m2 : List ℕ) (i : Option InterruptType) (a : asleep ≡ true) (h1 : Idles port m p m1) (h2 : Peeks m1 i m2) where
    peeked : LeadsTo (unless_asleep s) s port m (if is_pending i then woken else give Halting) s p m2
    peeked k = so _ _ awake s k (world port m) (sym e ∙ a) ∙ h1.there _ ∙ h2.there p (λ x. (if is_pending x then woken else give Halting) s k)

    pub still_asleep : is_pending i ≡ false → LeadsTo (unless_asleep s) s port m (after_halt true) s p m2
    still_asleep none k = peeked k ∙ not_so _ woken (give Halting) s k (world p m2) none

    module _ (t : Cpu) (some : is_pending i ≡ true) (e5 : t ≡ set_halt NotHalting s) where
      wakes : LeadsTo (unless_asleep s) s port m (if s.dmg then awake else (do idle; awake)) t p m2
      wakes k = peeked k ∙ so _ woken (give Halting) s k (world p m2) some ∙ ap (λ (u : Cpu). leads ((if s.dmg then awake else (do idle; awake)) u k) (world p m2)) (sym e5)

      pub woken_dmg : s.dmg ≡ true → LeadsTo (unless_asleep s) s port m (after_halt false) t p m2
      woken_dmg d k = wakes k ∙ so _ awake (do idle; awake) t k (world p m2) d

      -- "one more bus.idle access if not DMG"
      pub woken_cgb : (q : Port) (m3 : List ℕ) → s.dmg ≡ false → Idles p m2 q m3 → LeadsTo (unless_asleep s) s port m (after_halt false) t q m3
      woken_cgb q m3 d h k = wakes k ∙ not_so _ awake (do idle; awake) t k (world p m2) d ∙ h.there _

-- 1, 2 and 3
module _ (s : Cpu) (port : Port) (m : List ℕ) where
  pub stops : (p : Port) (m1 : List ℕ) → s.stopped ≡ true → Idles port m p m1 → Leads step s port m Stopped s p m1
  unfolding step
  stops p m1 x i k = so _ (do idle; give Stopped) _ s k (world port m) x ∙ i.there _

  module _ (x : s.stopped ≡ false) where
    pub transfers : (p : Port) (m1 : List ℕ) → s.hdma ≡ true → Idles port m p m1 → Leads step s port m RunningHDMA s p m1
    unfolding step
    transfers p m1 h i k = not_so _ (do idle; give Stopped) _ s k (world port m) x ∙ so _ (do idle; give RunningHDMA) _ s k (world port m) h ∙ i.there _

    module _ (h : s.hdma ≡ false) (t : Cpu) (p : Port) (m1 : List ℕ) (halting : Bool) (l : LeadsTo (unless_asleep s) s port m (after_halt halting) t p m1) where
      goes_on : LeadsTo step s port m (after_halt halting) t p m1
      unfolding step
      goes_on k = not_so _ (do idle; give Stopped) _ s k (world port m) x ∙ not_so _ (do idle; give RunningHDMA) _ s k (world port m) h ∙ l k

      pub sleeps_on : halting ≡ true → Leads step s port m Halting t p m1
      sleeps_on y k = goes_on k ∙ so _ (give Halting) awake t k (world p m1) y

      pub steps : (u : Cpu) (q : Port) (m2 : List ℕ) (o : Outcome) → halting ≡ false → Leads awake t p m1 o u q m2 → Leads step s port m o u q m2
      steps u q m2 o n a k = goes_on k ∙ not_so _ (give Halting) awake t k (world p m1) n ∙ a k
