-- How parts are put together: one after another, along an equation of what is done, of the value or of the state that is left.
use Rattle.std.proofs.Common.{◌≡◌, ℕ, List, sym, ap, ◌∙◌, subst}
use Rattle.sm83.specs.declared.Cpu.{Cpu}
use Rattle.definition.specs.Bus.{Ask, Operand}
use Rattle.definition.specs.Step.{Ended}
use Rattle.definition.specs.Execution.{Does, ◌>>=◌, give, store}
use Rattle.bus.specs.declared.Port.{Port}
use Rattle.bus.specs.World.{world, leads}
use Rattle.bus.specs.Leads.{Leads, Reaches}

module _ (s t u : Cpu) (port port' port'' : Port) (m m' m'' : List ℕ) where
  -- one part, then another
  pub after : {A B : Type 0} (P : Does Ended A) (Q : A → Does Ended B) (a : A) (b : B) → Leads P s port m a t port' m' → Leads (Q a) t port' m' b u port'' m'' → Leads (P >>= Q) s port m b u port'' m''
  after P Q a b first second k = first (λ x y. Q x y k) ∙ second k

module _ (s t : Cpu) (port port' : Port) (m m' : List ℕ) where
  -- the same part by another name
  pub along : {X A : Type 0} (P : X → Does Ended A) (x y : X) (a : A) → x ≡ y → Leads (P x) s port m a t port' m' → Leads (P y) s port m a t port' m'
  along P x y a e l = subst (λ z. Leads (P z) s port m a t port' m') e l

  -- a byte to the same address by another name
  pub stored : (v a b : ℕ) → a ≡ b → Leads (store Operand a v) s port m tt t port' m' → Leads (store Operand b v) s port m tt t port' m'
  stored v a b e l = along (λ (x : ℕ). store Operand x v) a b tt e l

-- a value by another name, and nothing done
pub giving : (s : Cpu) (port : Port) (m : List ℕ) {A : Type 0} (a b : A) → b ≡ a → Leads (give a) s port m b s port m
giving s port m a b e k = ap (λ z. leads (k z s) (world port m)) (sym e)

module _ {X A : Type 0} (P : X → Does Ended A) {q : Does Ended A} {s t : Cpu} {port port' : Port} {m m' : List ℕ} where
  -- What is done, by another name of what it goes by.
  pub renamed : {x y : X} → x ≡ y → Reaches (P x) s port m q t port' m' → Reaches (P y) s port m q t port' m'
  renamed e l = subst (λ z. Reaches (P z) s port m q t port' m') e l

  -- One arm of a match, whatever its constructor y: x is what is matched, p what the arm does, and for y that is what P says.
  pub arm : (y : X) {x : X} {p : Does Ended A} → x ≡ y → Reaches p s port m q t port' m' → ((k : A → Cpu → Ask Ended) → leads (P y s k) (world port m) ≡ leads (p s k) (world port m)) → Reaches (P x) s port m q t port' m'
  arm y e l same = renamed (sym e) (record { there = λ k. same k ∙ l.there k })
