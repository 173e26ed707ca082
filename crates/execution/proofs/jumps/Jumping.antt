-- Jumps, calls and returns: what the callees answer comes to what 000 does.
use Rattle.std.proofs.Common.{if◌then◌else◌}
use mathlib.Core.Bool.{Bool, true, false, ◌&&◌}
use mathlib.Core.Path.{◌≡◌, ap, sym, subst, ◌∙◌}
use mathlib.Core.List.{List}
use Prim.Native.Nat.{ℕ, ◌+◌, ◌%◌}
use lib.Dec.{eqb}
use Rattle.sm83.specs.declared.Cpu.{Cpu}
use Rattle.outcome.specs.declared.Outcome.TheVariants.{Normal, InfiniteLoop}
use Rattle.definition.specs.Step.{Ended}
use Rattle.sm83.specs.State.{pc, set_pc}
use Rattle.definition.specs.Execution.{Does, ◌>>◌, nothing, change, go_to, idle, push, pop, return}
use Rattle.instruction.specs.declared.Condition.{Condition}
use Rattle.bus.specs.declared.Port.{Port}
use Rattle.bus.specs.World.{world, leads, Idles}
use Rattle.bus.specs.declared.Left.{Left}
use Rattle.bus.specs.Leads.{Leads}
use Rattle.instruction.specs.Holding.{check_cond, is_unconditional}
use Rattle.execution.specs.Mirror.{made, jump_made, only_if_made, call_made, ret_made, ret_if_made}
use Rattle.execution.specs.declared.Made.{Made}
use Rattle.execution.specs.Worked.{worked}
use Rattle.bus.proofs.Leading.{after, along}
use Rattle.execution.proofs.results.Ending.{ending}
use Rattle.bus.proofs.Parts.{idled}
use Rattle.execution.specs.Unless.{IdlesUnless}

module _ (s : Cpu) (port : Port) (m : List ℕ) (c : Condition) (P : Does Ended Made) (go : Bool) where
  pub held : (t : Cpu) (port' : Port) (m' : List ℕ) (a : Made) → go ≡ check_cond c s.registers.f → go ≡ true → Leads P s port m a t port' m' → Leads (only_if_made c P) s port m a t port' m'
  unfolding only_if_made
  held t port' m' a e1 e2 l k = ap (λ (b : Bool). leads ((if b then P else made 0) s k) (world port m)) (sym e1 ∙ e2) ∙ l k

  pub not_held : (r : Left Made) → go ≡ check_cond c s.registers.f → go ≡ false → r ≡ worked s port 0 Normal → Leads (only_if_made c P) s port m r.value r.cpu r.port m
  unfolding only_if_made
  not_held r e1 e2 e = ending s port m m r _ (only_if_made c P) e (λ k. ap (λ (b : Bool). leads ((if b then P else made 0) s k) (world port m)) (sym e1 ∙ e2))

module _ (s : Cpu) (port port' : Port) (m m' : List ℕ) (r : Left Made) where
  pub jumped : (at to : ℕ) (sure u : Bool) → Idles port m port' m' → sure ≡ u → r ≡ worked (set_pc to s) port' 0 (if sure && eqb to at then InfiniteLoop else Normal) → Leads (idle >> jump_made at u to) s port m r.value r.cpu r.port m'
  unfolding jump_made
  jumped at to sure u h e3 e4 k = h.there _ ∙ simp (e4, e3)

  pub jumped_by : (at by to : ℕ) (sure u : Bool) → Idles port m port' m' → sure ≡ u → to ≡ (pc s + by) % 65536 → r ≡ worked (set_pc to s) port' 0 (if sure && eqb to at then InfiniteLoop else Normal) → Leads (idle >> jump_made at u ((pc s + by) % 65536)) s port m r.value r.cpu r.port m'
  jumped_by at by to sure u h e3 e4 e5 = along s r.cpu port r.port m m' (λ (x : ℕ). idle >> jump_made at u x) to ((pc s + by) % 65536) r.value e4 (jumped at to sure u h e3 e5)

  module _ (t : Cpu) (port'' : Port) (m'' : List ℕ) where
    pub called : (u : Cpu) (to : ℕ) → Idles port m port' m' → Leads (push (pc s)) s port' m' tt t port'' m'' → u ≡ set_pc to t → r ≡ worked u port'' 0 Normal → Leads (call_made to) s port m r.value r.cpu r.port m''
    called u to h l e3 e4 =
        ending s port m m'' r _ (call_made to) (e4 ∙ ap (λ (x : Cpu). worked x port'' 0 Normal) e3)
        (after s s (set_pc to t) port port' port'' m m' m'' idle (λ _. push (pc s) >> (go_to to >> made 0)) tt _ (idled s port port' m m' h) (λ k. l (λ _ x. (go_to to >> made 0) x k)))

    -- g is what a return changes besides PC
    pub returned : (g : Cpu → Cpu) (u : Cpu) (w : ℕ) → Leads pop s port m w t port' m' → Idles port' m' port'' m'' → u ≡ g (set_pc w t) → r ≡ worked u port'' 0 Normal → Leads (return >> (change g >> made 0)) s port m r.value r.cpu r.port m''
    returned g u w l h e3 e4 =
        ending s port m m'' r _ (return >> (change g >> made 0)) (e4 ∙ ap (λ (x : Cpu). worked x port'' 0 Normal) e3)
        (after s t (g (set_pc w t)) port port' port'' m m' m'' pop (λ x. idle >> (go_to x >> (change g >> made 0))) w _ l (λ k. idled t port' port'' m' m'' h (λ _ x. (go_to w >> (change g >> made 0)) x k)))

pub idled_unless : (s : Cpu) (port port' : Port) (m m' : List ℕ) (sure : Bool) → IdlesUnless sure port m port' m' → Leads (if sure then nothing else idle) s port m tt s port' m'
idled_unless s port port' m m' true h k = h.there (k tt s)
idled_unless s port port' m m' false h k = h.there (k tt s)

-- the condition of a return, after the idle access that a sure return does without
pub returned_if : (s t : Cpu) (port port' port'' : Port) (m m' m'' : List ℕ) (a : Made) (c : Condition) (sure : Bool) → sure ≡ is_unconditional c → IdlesUnless sure port m port' m' → Leads (only_if_made c ret_made) s port' m' a t port'' m'' → Leads (ret_if_made c) s port m a t port'' m''
returned_if s t port port' port'' m m' m'' a c sure e h l =
    after s s t port port' port'' m m' m'' (if is_unconditional c then nothing else idle) (λ _. only_if_made c ret_made) tt a
    (idled_unless s port port' m m' (is_unconditional c) (subst (λ (b : Bool). IdlesUnless b port m port' m') e h)) l
