-- The operations on words, PUSH and POP: what the callees answer comes to what 000 does.
use mathlib.Core.Path.{◌≡◌, ap, ◌∙◌}
use mathlib.Core.List.{List}
use Prim.Native.Nat.{ℕ, ◌+◌, ◌%◌}
use Rattle.sm83.specs.declared.Cpu.{Cpu}
use Rattle.outcome.specs.declared.Outcome.TheVariants.{Normal}
use Rattle.sm83.specs.State.{pair_hl, set_sp, set_f}
use Rattle.opcodes.specs.Arithmetic.{word_sum_flags}
use Rattle.definition.specs.Execution.{◌>>◌, idle, push, pop}
use Rattle.arithmetic.specs.declared.Computed.{Computed}
use Rattle.arithmetic.specs.Words.{word_with}
use Rattle.bus.specs.declared.Port.{Port}
use Rattle.bus.specs.World.{Idles}
use Rattle.bus.specs.declared.Left.{Left}
use Rattle.bus.specs.Leads.{Leads}
use Rattle.execution.specs.Mirror.{made, load_sp_made, load_hl_made, add_sp_made, add_hl_made, after_idle_made, push_made, pop_made}
use Rattle.execution.specs.Worked.{worked, offset_by}
use Rattle.bus.proofs.Leading.{after}
use Rattle.execution.proofs.results.Ending.{ending}
use Rattle.bus.proofs.Parts.{idled}
use Rattle.execution.specs.declared.Made.{Made}

module _ (s : Cpu) (port port' : Port) (m m' : List ℕ) (r : Left Made) where
  pub loaded_sp : (t : Cpu) (hl : ℕ) → Idles port m port' m' → hl ≡ pair_hl s.registers → t ≡ set_sp hl s → r ≡ worked t port' 0 Normal → Leads load_sp_made s port m r.value r.cpu r.port m'
  unfolding load_sp_made
  loaded_sp t hl h e3 e4 e5 k = h.there _ ∙ simp (e5, e4, e3)

  pub offset_loaded : (v : ℕ) → Idles port m port' m' → r ≡ offset_by s port' v → Leads (load_hl_made v) s port m r.value r.cpu r.port m'
  unfolding load_hl_made
  offset_loaded v h e3 k = h.there _ ∙ simp e3

  pub offset_added : (port'' : Port) (m'' : List ℕ) (v : ℕ) → Idles port m port' m' → Idles port' m' port'' m'' → r ≡ offset_by s port'' v → Leads (add_sp_made v) s port m r.value r.cpu r.port m''
  unfolding add_sp_made
  offset_added port'' m'' v h1 h2 e5 k = h1.there _ ∙ h2.there _ ∙ simp e5

  pub hl_added : (v hl : ℕ) (x : Computed ℕ) → Idles port m port' m' → hl ≡ pair_hl s.registers → x ≡ word_with ((hl + v) % 65536) (word_sum_flags hl v s.registers.f) → r ≡ worked (set_f x.flags s) port' x.value Normal → Leads (add_hl_made v) s port m r.value r.cpu r.port m'
  unfolding add_hl_made
  hl_added v hl x h e3 e4 e5 = ending s port m m' r _ (add_hl_made v) (e5 ∙ ap (λ (y : Computed ℕ). worked (set_f y.flags s) port' y.value Normal) e4) (λ k. h.there _ ∙ simp e3)

  pub word_after_idle : (w : ℕ) → Idles port m port' m' → r ≡ worked s port' w Normal → Leads (after_idle_made w) s port m r.value r.cpu r.port m'
  word_after_idle w h e3 k = h.there _ ∙ simp e3

  pub word_pushed : (t : Cpu) (port'' : Port) (m'' : List ℕ) (v : ℕ) → Idles port m port' m' → Leads (push v) s port' m' tt t port'' m'' → r ≡ worked t port'' 0 Normal → Leads (push_made v) s port m r.value r.cpu r.port m''
  word_pushed t port'' m'' v h l e = ending s port m m'' r _ (push_made v) e (after s s t port port' port'' m m' m'' idle (λ _. push v >> made 0) tt _ (idled s port port' m m' h) (λ k. l (λ _ x. made 0 x k)))

  pub word_popped : (t : Cpu) (w : ℕ) → Leads pop s port m w t port' m' → r ≡ worked t port' w Normal → Leads pop_made s port m r.value r.cpu r.port m'
  word_popped t w l e = ending s port m m' r _ pop_made e (λ k. l (λ x y. made x y k))
