-- A loop of steps is the definition's repeated steps, on whatever memory stands behind the code's: what is done so far and what is left make the run at every turn.
use Rattle.std.specs.Prelude.{None, Option, Some}
use Rattle.std.proofs.Common.{if◌then◌else◌}
use mathlib.Core.Path.{◌≡◌, refl, ap, sym, subst, subst⁻¹, ◌∙◌}
use mathlib.Core.Bool.{true, false}
use mathlib.Core.List.{List}
use Prim.Native.Nat.{ℕ, suc, ◌+◌, ◌-◌, ◌*◌, ◌<◌, ◌≤◌}
use native.Mathlib.Omega.{arith}
use lib.ListN.{length}
use Rattle.sm83.specs.declared.Cpu.{Cpu}
use Rattle.outcome.specs.declared.Outcome.{Outcome}
use Rattle.definition.specs.Bus.{Bus, mcycles}
use Rattle.definition.specs.Step.{Ended, ended, accepted, admission, step, step_tree, step_on}
use Rattle.definition.specs.Run.{RunAnswer, stops_run, then_rest, repeated}
use Rattle.opcodes.proofs.Choices.{if_so, if_not}
use Rattle.definition.proofs.StepRuns.{accepted_step}
use Rattle.definition.proofs.StepCycles.{accepted_one_to_eight}
use Rattle.ranges.proofs.Ranges.{Bytes, InRange, step_ranges, step_size}
use Rattle.bus.specs.declared.Port.{Port}
use Rattle.bus.specs.World.{Led, world}
use Rattle.bus.proofs.Following.{SameBytes, Followed, arrive}
use Rattle.bus.specs.Leads.{Leads}
use Rattle.run.proofs.Behind.{Behind}

-- so many steps and M-cycles more
abbrev further : ℕ → ℕ → RunAnswer (List ℕ) → RunAnswer (List ℕ)
further n c r = record { last = r.last; cpu = r.cpu; memory = r.memory; steps = n + r.steps; cycles = c + r.cycles }

-- After n steps of a run: its state, its memory, its port and its last outcome.
pub record Going (b : Bus (List ℕ)) (budget : ℕ) (s₀ : Cpu) (m₀ : List ℕ) (s : Cpu) (m : List ℕ) (p : Port) (last : Option Outcome) (n : ℕ) : Type 0 where
  pub within : n ≤ budget
  pub spent : p.cycles.0 ≤ 8 * n
  pub long : length m ≡ 65536
  pub ranges : InRange Bytes s m
  pub so_far : repeated b None budget s₀ m₀ ≡ further n p.cycles.0 (repeated b last (budget - n) s m)

-- The code's step is the definition's.
module _ (b : Bus (List ℕ)) (h : Behind b) (s s' : Cpu) (p p' : Port) (m m' : List ℕ) (o : Outcome) (small : p.cycles.0 + 8 < 4294967296) (here : admission b s m ≡ accepted) (l : Leads step s p m o s' p' m') where
  abbrev end : Led Ended
  end = record { value = record { outcome = o; cpu = s' }; left = world p' m' }

  followed : Followed b SameBytes end (world p m) (step_on b s m)
  followed =
      subst⁻¹ (Followed b SameBytes end (world p m)) (accepted_step b s m here)
      (arrive b SameBytes h.follows (step_tree s) (world p m) (world p' m') m end.value (omega arith) refl (l ended))

  pub value_is : (step_on b s m).value ≡ record { outcome = o; cpu = s' }
  value_is = sym followed.value

  pub memory_is : (step_on b s m).memory ≡ m'
  memory_is = sym followed.memory

  pub cycles_are : p'.cycles.0 ≡ p.cycles.0 + mcycles (step_on b s m).accesses
  cycles_are =
      let most : mcycles (step_on b s m).accesses ≤ 8 = (accepted_one_to_eight b s m here).1 in
      omega (arith, followed.counts)

-- An answer by its parts.
abbrev answered : Option Outcome → Cpu → List ℕ → ℕ → ℕ → RunAnswer (List ℕ)
answered o s m n c = record { last = o; cpu = s; memory = m; steps = n; cycles = c }

same_counts : (o : Option Outcome) (s : Cpu) (m : List ℕ) (n n' c c' : ℕ) → n ≡ n' → c ≡ c' → answered o s m n c ≡ answered o s m n' c'
same_counts o s m n n' c c' e f = ap (λ (x : ℕ). answered o s m x c) e ∙ ap (λ (x : ℕ). answered o s m n' x) f

-- One turn of the definition's, from what its step answers.
abbrev turn : Bus (List ℕ) → Ended → List ℕ → ℕ → ℕ → RunAnswer (List ℕ)
turn b v m c k = if stops_run v.outcome then answered (Some v.outcome) v.cpu m 1 c else then_rest c (repeated b (Some v.outcome) k v.cpu m)

module _ (b : Bus (List ℕ)) (h : Behind b) (budget : ℕ) (s₀ : Cpu) (m₀ : List ℕ) where
  -- before the first
  pub starts : (p : Port) → p.cycles.0 ≡ 0 → length m₀ ≡ 65536 → InRange Bytes s₀ m₀ → Going b budget s₀ m₀ s₀ m₀ p None 0
  starts p e long ranges =
      let all : RunAnswer (List ℕ) = repeated b None budget s₀ m₀ in
      record {
        within = omega arith;
        spent = omega arith;
        long = long;
        ranges = ranges;
        so_far = same_counts all.last all.cpu all.memory _ _ _ _ (omega arith) (omega arith) ∙ ap (λ (k : ℕ). further 0 p.cycles.0 (repeated b None k s₀ m₀)) (omega arith);
      }

  module _ (s : Cpu) (m : List ℕ) (p : Port) (last : Option Outcome) (n : ℕ) (g : Going b budget s₀ m₀ s m p last n) where
    -- after the last
    pub ends : budget ≤ n → answered last s m budget p.cycles.0 ≡ repeated b None budget s₀ m₀
    unfolding repeated
    ends done = sym (g.so_far ∙ ap (λ (k : ℕ). further n p.cycles.0 (repeated b last k s m)) none_left ∙ same_counts last s m _ _ _ _ (omega (arith, g.within)) (omega arith))
      where
        none_left : budget - n ≡ 0
        none_left = omega arith

    module _ (s' : Cpu) (p' : Port) (m' : List ℕ) (o : Outcome) (small : budget < 65536) (more : n < budget) (l : Leads step s p m o s' p' m') where
      c : ℕ
      c = mcycles (step_on b s m).accesses

      here : admission b s m ≡ accepted
      here = simp (h.size m, g.long, g.ranges.0.low_bits)

      room : p.cycles.0 + 8 < 4294967296
      room = omega (arith, g.spent)

      few : c ≤ 8
      unfolding c
      few = (accepted_one_to_eight b s m here).1

      spends : p'.cycles.0 ≡ p.cycles.0 + c
      unfolding c
      spends = cycles_are b h s s' p p' m m' o room here l

      value : (step_on b s m).value ≡ record { outcome = o; cpu = s' }
      value = value_is b h s s' p p' m m' o room here l

      memory : (step_on b s m).memory ≡ m'
      memory = memory_is b h s s' p p' m m' o room here l

      one_turn : repeated b last (budget - n) s m ≡ turn b (record { outcome = o; cpu = s' }) m' c (budget - (n + 1))
      unfolding repeated c
      one_turn =
          ap (λ (k : ℕ). repeated b last k s m) left
          ∙ ap (λ (v : Ended). turn b v (step_on b s m).memory c (budget - (n + 1))) value
          ∙ ap (λ (w : List ℕ). turn b (record { outcome = o; cpu = s' }) w c (budget - (n + 1))) memory
        where
          left : budget - n ≡ suc (budget - (n + 1))
          left = omega arith

      -- "it stops early only after InfiniteLoop, Breakpoint, Stopped or a refusal"
      pub stops_early : stops_run o ≡ true → answered (Some o) s' m' (n + 1) p'.cycles.0 ≡ repeated b None budget s₀ m₀
      stops_early e = sym (g.so_far ∙ ap (further n p.cycles.0) (one_turn ∙ if_so _ _ e) ∙ ap (answered (Some o) s' m' (n + 1)) (sym spends))

      pub goes_on : stops_run o ≡ false → Going b budget s₀ m₀ s' m' p' (Some o) (n + 1)
      goes_on e =
          let rest : RunAnswer (List ℕ) = repeated b (Some o) (budget - (n + 1)) s' m' in
          record {
            within = omega arith;
            spent = omega (arith, spends, few, g.spent);
            long = sym (h.size m') ∙ ap b.size (sym memory) ∙ step_size b h.sized s m ∙ h.size m ∙ g.long;
            ranges =
                subst (λ (w : List ℕ). InRange Bytes s' w) memory
                (subst (λ (v : Ended). InRange Bytes v.cpu (step_on b s m).memory) value (step_ranges b Bytes h.lawful s m g.ranges).0);
            so_far = g.so_far ∙ ap (further n p.cycles.0) (one_turn ∙ if_not _ _ e) ∙ same_counts rest.last rest.cpu rest.memory _ _ _ _ (omega arith) (omega (arith, spends));
          }
