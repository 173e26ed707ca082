-- What a reason says of the step in demand 3's words: a watch that goes on spares the window, one that ends by a write does not, and a fine step leaves no reason but a write.
use Rattle.std.proofs.Common.{if◌then◌else◌, Option, Some, None}
use mathlib.Core.Path.{◌≡◌, refl, subst, subst⁻¹}
use mathlib.Core.Bool.{Bool, true, false, not, ◌&&◌}
use mathlib.Core.List.{List, [], ◌∷◌}
use Prim.Native.Nat.{ℕ, ◌%◌}
use lib.Dec.{T, eqb}
use lib.Ieee.Bits.{is_true}
use borrow.Author.Tests.{eqb-true, eq-eqb}
use Rattle.sm83.specs.declared.Addr.{Addr}
use Rattle.sm83.specs.declared.Cpu.{Cpu}
use Rattle.sm83.specs.declared.HaltMode.{HaltMode}
use Rattle.sm83.specs.declared.HaltMode.TheVariants.{NotHalting, HaltRunInterrupt, HaltNoRunInterrupt, HaltBug}
use Rattle.sm83.specs.State.{addr, flags}
use Rattle.outcome.specs.declared.Outcome.{Outcome}
use Rattle.outcome.specs.declared.Outcome.TheVariants as outcome
use Rattle.definition.specs.Bus.{Access, Read, Write, Idle, WriteAndTake, Performed}
use Rattle.definition.specs.Step.{Ended}
use Rattle.routine.specs.Trace.{in_window, spares, takes_none, Quiet, is_fine, Fine}
use Rattle.watch.specs.Written.{written_by}
use Rattle.watch.specs.Demanded.{is_halted, is_quiet}
use Rattle.watch.specs.declared.reasons.Why.{Why}
use Rattle.watch.specs.declared.reasons.Why.TheVariants.{Strays, Refused, Stops, Halts, Interrupted, Writes}
use Rattle.watch.specs.Reasons.{first_inside, by_outcome, by_state, by_accesses, why_of}

-- the watch goes on
abbrev pub GoesOn : Option Why → Type 0
GoesOn None = Unit {0}
GoesOn (Some why) = ⊥

-- it goes on, or the step writes into the window
abbrev pub StaysOrWrites : Option Why → Type 0
StaysOrWrites None = Unit {0}
StaysOrWrites (Some Strays) = ⊥
StaysOrWrites (Some Refused) = ⊥
StaysOrWrites (Some Stops) = ⊥
StaysOrWrites (Some Halts) = ⊥
StaysOrWrites (Some Interrupted) = ⊥
StaysOrWrites (Some (Writes a)) = Unit {0}

-- A watch that goes on.

outcome_went : (o : Outcome) (rest : Option Why) → GoesOn (by_outcome o rest) → GoesOn rest
outcome_went outcome.Normal rest g = g
outcome_went outcome.InfiniteLoop rest g = g
outcome_went outcome.Halting rest g = absurd g
outcome_went outcome.RunningHDMA rest g = absurd g
outcome_went outcome.Stopped rest g = absurd g
outcome_went (outcome.RunningInterrupt i) rest g = absurd g
outcome_went (outcome.Breakpoint r) rest g = g
outcome_went (outcome.Refused r) rest g = absurd g

state_went : (stopped halted : Bool) (rest : Option Why) → GoesOn (if stopped then Some Stops else (if halted then Some Halts else rest)) → GoesOn rest
state_went true halted rest g = absurd g
state_went false true rest g = absurd g
state_went false false rest g = g

accesses_went : (none : Bool) (rest : Option Why) → GoesOn (if none then rest else Some Interrupted) → GoesOn rest
accesses_went true rest g = g
accesses_went false rest g = absurd g

module _ (first n : ℕ) where
  one_spared : (inside : Bool) (a : ℕ) (rest : Option Why) (others : Bool) → (GoesOn rest → T others) → GoesOn (if inside then Some (Writes (addr a)) else rest) → T (not inside && others)
  one_spared true a rest others h g = absurd g
  one_spared false a rest others h g = h g

  all_spared : (l : List Access) → GoesOn (first_inside first n (written_by l)) → T (spares first n l)
  all_spared [] g = tt
  all_spared (Read k a ∷ l) g = all_spared l g
  all_spared (Write k a v ∷ l) g = one_spared (in_window first n a) a _ (spares first n l) (all_spared l) g
  all_spared (Idle ∷ l) g = all_spared l g
  all_spared (WriteAndTake a v ∷ l) g = one_spared (in_window first n a) a _ (spares first n l) (all_spared l) g

  -- "A write counts if its address lies in the window, even with an equal value"
  pub stays_spares : (r : Performed (List ℕ) Ended) → why_of first n r ≡ None → T (spares first n r.accesses)
  unfolding why_of
  stays_spares r e =
      let rest : Option Why = by_state r.value.cpu (by_accesses first n r.accesses) in
      let went : GoesOn (by_outcome r.value.outcome rest) = subst⁻¹ GoesOn e tt in
      all_spared r.accesses (accesses_went (takes_none r.accesses) _ (state_went r.value.cpu.stopped (is_halted r.value.cpu.halt) _ (outcome_went r.value.outcome rest went)))

-- A watch that ends by a write: it lies in the window, and the window is not spared.

module _ (first n : ℕ) where
  abbrev IfWrites : Bool → Option Why → Type 0
  IfWrites spared None = Unit {0}
  IfWrites spared (Some Strays) = Unit {0}
  IfWrites spared (Some Refused) = Unit {0}
  IfWrites spared (Some Stops) = Unit {0}
  IfWrites spared (Some Halts) = Unit {0}
  IfWrites spared (Some Interrupted) = Unit {0}
  IfWrites spared (Some (Writes a)) = T (in_window first n a.0) × T (not spared)

  by_the_outcome : (spared : Bool) (o : Outcome) (rest : Option Why) → IfWrites spared rest → IfWrites spared (by_outcome o rest)
  by_the_outcome spared outcome.Normal rest h = h
  by_the_outcome spared outcome.InfiniteLoop rest h = h
  by_the_outcome spared outcome.Halting rest h = tt
  by_the_outcome spared outcome.RunningHDMA rest h = tt
  by_the_outcome spared outcome.Stopped rest h = tt
  by_the_outcome spared (outcome.RunningInterrupt i) rest h = tt
  by_the_outcome spared (outcome.Breakpoint r) rest h = h
  by_the_outcome spared (outcome.Refused r) rest h = tt

  by_the_state : (spared stopped halted : Bool) (rest : Option Why) → IfWrites spared rest → IfWrites spared (if stopped then Some Stops else (if halted then Some Halts else rest))
  by_the_state spared true halted rest h = tt
  by_the_state spared false true rest h = tt
  by_the_state spared false false rest h = h

  by_the_accesses : (spared none : Bool) (rest : Option Why) → IfWrites spared rest → IfWrites spared (if none then rest else Some Interrupted)
  by_the_accesses spared true rest h = h
  by_the_accesses spared false rest h = tt

  first_one : (inside : Bool) (a : ℕ) (rest : Option Why) (others : Bool) → in_window first n a ≡ inside → IfWrites others rest → IfWrites (not inside && others) (if inside then Some (Writes (addr a)) else rest)
  first_one true a rest others e h = (subst⁻¹ T e tt, tt)
  first_one false a rest others e h = h

  any_one : (l : List Access) → IfWrites (spares first n l) (first_inside first n (written_by l))
  any_one [] = tt
  any_one (Read k a ∷ l) = any_one l
  any_one (Write k a v ∷ l) = first_one (in_window first n a) a _ (spares first n l) refl (any_one l)
  any_one (Idle ∷ l) = any_one l
  any_one (WriteAndTake a v ∷ l) = first_one (in_window first n a) a _ (spares first n l) refl (any_one l)

  pub writes_inside : (r : Performed (List ℕ) Ended) (a : Addr) → why_of first n r ≡ Some (Writes a) → T (in_window first n a.0) × T (not (spares first n r.accesses))
  unfolding why_of
  writes_inside r a e =
      let spared : Bool = spares first n r.accesses in
      subst (IfWrites spared) e (by_the_outcome spared r.value.outcome _ (by_the_state spared r.value.cpu.stopped (is_halted r.value.cpu.halt) _ (by_the_accesses spared (takes_none r.accesses) _ (any_one r.accesses))))

-- A fine step.

outcome_fine : (o : Outcome) (rest : Option Why) → T (is_fine o) → StaysOrWrites rest → StaysOrWrites (by_outcome o rest)
outcome_fine outcome.Normal rest f h = h
outcome_fine outcome.InfiniteLoop rest f h = h
outcome_fine outcome.Halting rest f h = absurd f
outcome_fine outcome.RunningHDMA rest f h = absurd f
outcome_fine outcome.Stopped rest f h = absurd f
outcome_fine (outcome.RunningInterrupt i) rest f h = absurd f
outcome_fine (outcome.Breakpoint r) rest f h = h
outcome_fine (outcome.Refused r) rest f h = absurd f

state_fine : (s : Cpu) (rest : Option Why) → Quiet s → StaysOrWrites rest → StaysOrWrites (by_state s rest)
state_fine s rest q h = rw (q.running, q.not_halting) h

module _ (first n : ℕ) where
  one_fine : (inside : Bool) (a : ℕ) (rest : Option Why) → StaysOrWrites rest → StaysOrWrites (if inside then Some (Writes (addr a)) else rest)
  one_fine true a rest h = tt
  one_fine false a rest h = h

  written_fine : (l : List ℕ) → StaysOrWrites (first_inside first n l)
  written_fine [] = tt
  written_fine (a ∷ l) = one_fine (in_window first n a) a _ (written_fine l)

  accesses_fine : (none : Bool) (l : List ℕ) → T none → StaysOrWrites (if none then first_inside first n l else Some Interrupted)
  accesses_fine true l t = written_fine l
  accesses_fine false l t = absurd t

  pub fine_stays : (r : Performed (List ℕ) Ended) → Fine r → StaysOrWrites (why_of first n r)
  unfolding why_of
  fine_stays r f = outcome_fine r.value.outcome _ f.outcome (state_fine r.value.cpu _ f.leaves_quiet (accesses_fine (takes_none r.accesses) (written_by r.accesses) f.none_taken))

-- A state as demand 3 wants it: the test holds exactly of those.

awake_is : (h : HaltMode) → T (not (is_halted h)) → h ≡ NotHalting
awake_is NotHalting t = refl
awake_is HaltRunInterrupt t = absurd t
awake_is HaltNoRunInterrupt t = absurd t
awake_is HaltBug t = absurd t

clear : (b : Bool) → T (not b) → b ≡ false
clear true t = absurd t
clear false t = refl

each : (a b c d e f : Bool) → T (a && b && c && d && e && f) → T a × T b × T c × T d × T e × T f
each true true true true true true t = (tt, tt, tt, tt, tt, tt)
each true true true true true false t = absurd t
each true true true true false f t = absurd t
each true true true false e f t = absurd t
each true true false d e f t = absurd t
each true false c d e f t = absurd t
each false b c d e f t = absurd t

pub is_quiet_lem : (s : Cpu) → T (is_quiet s) → Quiet s
is_quiet_lem s t =
    let h = each (not s.stopped) (not s.hdma) (not (is_halted s.halt)) (not s.ime) (not s.latch) (eqb (flags s % 16) 0) t in
    record {
      running = clear s.stopped h.0;
      no_hdma = clear s.hdma h.1;
      not_halting = awake_is s.halt h.2;
      off = clear s.ime h.3;
      none_enabled = clear s.latch h.4;
      low_bits = eqb-true _ _ (is_true (eqb (flags s % 16) 0) h.5);
    }

pub quiet_is : (s : Cpu) → Quiet s → is_quiet s ≡ true
quiet_is s q = rw (q.running, q.no_hdma, q.not_halting, q.off, q.none_enabled) (eq-eqb _ _ q.low_bits)
