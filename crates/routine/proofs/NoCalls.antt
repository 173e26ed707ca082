-- Which calls may be pending in a passed routine: none, since "every CALL" is forbidden. So no return is one that a call awaits, and their bytes ask for nothing.
use Rattle.std.proofs.Common.{if◌then◌else◌}
use mathlib.Core.Bool.{Bool, true, false, not}
use mathlib.Core.List.{List, [], ◌∷◌}
use Prim.Native.Nat.{ℕ}
use lib.Dec.{T}
use Rattle.sm83.specs.declared.Cpu.{Cpu}
use Rattle.definition.specs.Bus.{Bus, Access}
use Rattle.sm83.specs.State.{flags}
use Rattle.opcodes.specs.Instruction.{Jump, JP-n16, JP-HL, JR-e8, CALL-n16, RET, RETI, JP-cc-n16, JR-cc-e8, CALL-cc-n16, RET-cc, RST-vec}
use Rattle.opcodes.specs.Instruction.{Instruction, does, goes, CB-prefix, HALT, STOP, EI, LD-B-B, ILLEGAL}
use Rattle.routine.specs.Flow.{class_of, is_forbidden, returns}
use Rattle.routine.specs.Trace.{calls, Pending, called_from, pending_after, spares_pending, takes_return, returns_home, SamePending}

-- the calls that may be pending in a state, on a memory: the screen lets no call through, so none (02, request 7, says here which)
abbrev pub MayBePending : {W : Type 0} → Bus W → List ℕ → Cpu → W → List Pending → Type 0
MayBePending b screened s m [] = Unit {0}
MayBePending b screened s m (p ∷ l) = ⊥

jump_calls_not : (j : Jump) (f : ℕ) → T (not (is_forbidden (class_of (goes j)))) → T (not (calls (goes j) f))
jump_calls_not JP-n16 f h = tt
jump_calls_not JP-HL f h = tt
jump_calls_not JR-e8 f h = tt
jump_calls_not CALL-n16 f h = h
jump_calls_not RET f h = tt
jump_calls_not RETI f h = tt
jump_calls_not (JP-cc-n16 c) f h = tt
jump_calls_not (JR-cc-e8 c) f h = tt
jump_calls_not (CALL-cc-n16 c) f h = absurd h
jump_calls_not (RET-cc c) f h = tt
jump_calls_not (RST-vec v) f h = tt

calls_not : (i : Instruction) (f : ℕ) → T (not (is_forbidden (class_of i))) → T (not (calls i f))
calls_not (does w) f h = tt
calls_not (goes j) f h = jump_calls_not j f h
calls_not CB-prefix f h = tt
calls_not HALT f h = tt
calls_not STOP f h = tt
calls_not EI f h = tt
calls_not LD-B-B f h = tt
calls_not ILLEGAL f h = tt

module _ {W : Type 0} (b : Bus W) (screened : List ℕ) where
  none_added : (call return : Bool) (p : Pending) (t : Cpu) (m : W) → T (not call) → MayBePending b screened t m (if call then p ∷ [] else (if return then [] else []))
  none_added true return p t m h = h
  none_added false true p t m h = tt
  none_added false false p t m h = tt

  -- after an instruction that is not forbidden, in the state and on the memory that it leaves
  pub still_none : (i : Instruction) (s t : Cpu) (m m' : W) (l : List Pending) → T (not (is_forbidden (class_of i))) → MayBePending b screened s m l → MayBePending b screened t m' (pending_after i s l)
  still_none i s t m m' [] h none = none_added (calls i (flags s)) (returns i (flags s)) (called_from s) t m' (calls_not i (flags s) h)
  still_none i s t m m' (p ∷ l) h none = absurd none

  -- after a host that spares their bytes
  pub host_leaves : (s : Cpu) (m m' : W) (l : List Pending) → SamePending b l m m' → MayBePending b screened s m l → MayBePending b screened s m' l
  host_leaves s m m' [] same none = tt
  host_leaves s m m' (p ∷ l) same none = absurd none

  pub no_return : (s : Cpu) (m : W) (l : List Pending) → MayBePending b screened s m l → T (returns_home b s m l) → T (not (takes_return b s m))
  no_return s m [] none home = home
  no_return s m (p ∷ l) none home = absurd none

  -- nothing is asked of what is done to their bytes
  pub none_spared : (s : Cpu) (m : W) (l : List Pending) → MayBePending b screened s m l → (accesses : List Access) → T (spares_pending l accesses)
  none_spared s m [] none accesses = tt
  none_spared s m (p ∷ l) none accesses = absurd none

  pub none_same : (s : Cpu) (m : W) (l : List Pending) → MayBePending b screened s m l → (before after : W) → SamePending b l before after
  none_same s m [] none before after = tt
  none_same s m (p ∷ l) none before after = absurd none
