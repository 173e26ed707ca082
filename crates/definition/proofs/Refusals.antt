-- "When the core says no", 1 to 3, for every state and every kind of memory: when each refusal is answered, and what it leaves.
use Rattle.std.proofs.Common.{if◌then◌else◌}
use mathlib.Core.Path.{◌≡◌, refl, ap, subst, subst⁻¹, ◌∙◌}
use mathlib.Core.Logic.{◌≢◌}
use mathlib.Core.Bool.{Bool, true, false, ◌||◌}
use mathlib.Core.List.{List, [], ◌∷◌, ◌++◌}
use Prim.Native.Nat.{ℕ, ◌%◌}
use lib.Dec.{eqb, eqb→eq, T}
use lib.ListN.{length}
use borrow.Author.Tests.{eq-eqb, ne_eqb}
use Rattle.sm83.specs.declared.CpuRegisters.{CpuRegisters}
use Rattle.sm83.specs.declared.Cpu.{Cpu}
use Rattle.sm83.specs.declared.HaltMode.{HaltMode}
use Rattle.sm83.specs.declared.HaltMode.TheVariants.{NotHalting, HaltRunInterrupt, HaltNoRunInterrupt, HaltBug}
use Rattle.outcome.specs.declared.Refusal.{Refusal}
use Rattle.outcome.specs.declared.Refusal.TheVariants.{MemoryLength, LowBitsOfF, IllegalOpcode}
use Rattle.outcome.specs.declared.Outcome.TheVariants.{Refused}
use Rattle.definition.specs.Bus.{Access, Read, Fetch, Bus, Performed, logged, run_on, byte_at, pending, plain}
use Rattle.outcome.specs.Interrupts.{is_pending}
use Rattle.sm83.specs.State.{pc, flags, set_pc, set_ime, set_latch}
use Rattle.opcodes.specs.Instruction.{Instruction, ILLEGAL, decode}
use Rattle.definition.specs.Execution.{execute}
use Rattle.definition.specs.Step.{is_asleep, enabled, fetched, instruction, Ended, ended, Admission, accepted, refused_as, admission, admitted, step_on}
use Rattle.outcome.specs.Numbers.{number_of}
use Rattle.definition.specs.Run.{not_run, admitted_run, run_for}
use Rattle.definition.proofs.Compose.{after}
use Rattle.definition.proofs.PlainCourse.{idles, roused_from, woke_plain, passed_plain, same_ime}
use Rattle.definition.proofs.Course.{Woke, was_awake, woke_dmg, woke_cgb, Passed, ended_as, wakes, passes, woke_pc, woke_awake}

abbrev pub is_accepted : Admission → Bool
is_accepted accepted = true
is_accepted (refused_as r) = false

both_passed : (t u : Bool) → T (is_accepted (if t then (if u then accepted else refused_as LowBitsOfF) else refused_as MemoryLength)) → T t × T u
both_passed true true h = (tt, tt)
both_passed true false h = absurd h
both_passed false u h = absurd h

module _ {W : Type 0} (b : Bus W) (s : Cpu) (m : W) where
  length_first : b.size m ≢ 65536 → admission b s m ≡ refused_as MemoryLength
  length_first h = ap (λ (t : Bool). if t then (if eqb (flags s % 16) 0 then accepted else refused_as LowBitsOfF) else refused_as MemoryLength) (ne_eqb (b.size m) 65536 h)

  then_flags : (t : Bool) → b.size m ≡ 65536 → eqb (flags s % 16) 0 ≡ t → admission b s m ≡ (if t then accepted else refused_as LowBitsOfF)
  then_flags t h e =
      ap (λ (z : Bool). if z then (if eqb (flags s % 16) 0 then accepted else refused_as LowBitsOfF) else refused_as MemoryLength) (eq-eqb (b.size m) 65536 h)
      ∙ ap (λ (z : Bool). if z then accepted else refused_as LowBitsOfF) e

  -- "A step accepts a state when neither of the two refuses it."
  pub accepts : b.size m ≡ 65536 → flags s % 16 ≡ 0 → admission b s m ≡ accepted
  accepts h f = then_flags true h (eq-eqb (flags s % 16) 0 f)

  pub accepts_only : admission b s m ≡ accepted → (b.size m ≡ 65536) × (flags s % 16 ≡ 0)
  accepts_only e =
      let h : _ = both_passed (eqb (b.size m) 65536) (eqb (flags s % 16) 0) (subst⁻¹ (λ (v : Admission). T (is_accepted v)) e tt) in
      (eqb→eq (b.size m) 65536 h.0, eqb→eq (flags s % 16) 0 h.1)

-- Step and run refuse for this reason, with this number, and leave "state, bytes and marks as they came, 0 M-cycles"; the run "also with budget 0".
pub record RefusedWhole {W : Type 0} (b : Bus W) (s : Cpu) (m : W) (why : Refusal) (n : ℕ) : Type 0 where
  pub numbered : number_of why ≡ n
  pub step_leaves : step_on b s m ≡ record { value = record { outcome = Refused why; cpu = s }; memory = m; accesses = [] }
  pub run_leaves : (budget : ℕ) → run_for b budget s m ≡ not_run why s m

module _ {W : Type 0} (b : Bus W) (s : Cpu) (m : W) where
  refused_whole : (r : Refusal) → admission b s m ≡ refused_as r → RefusedWhole b s m r (number_of r)
  unfolding step_on run_for
  refused_whole r e =
      record { numbered = refl; step_leaves = ap (λ (v : Admission). admitted v b s m) e; run_leaves = λ budget. ap (λ (v : Admission). admitted_run v b budget s m) e }

  -- 1: "memory is not 65,536 bytes long"
  pub refusal_1 : b.size m ≢ 65536 → RefusedWhole b s m MemoryLength 1
  refusal_1 h = refused_whole MemoryLength (length_first b s m h)

  -- 2: "a low bit of F is set"; 1 is tested first
  pub refusal_2 : b.size m ≡ 65536 → flags s % 16 ≢ 0 → RefusedWhole b s m LowBitsOfF 2
  refusal_2 h f = refused_whole LowBitsOfF (then_flags b s m false h (ne_eqb (flags s % 16) 0 f))

-- 3 leaves "PC as before the fetch; steps 3, 5 and the end of HaltBug keep their effect": awake, IME set if the latch was, the latch clear.
abbrev pub left_by3 : Cpu → Cpu
left_by3 s =
    record { registers = s.registers; ime = s.latch || s.ime; latch = false; halt = NotHalting; stopped = s.stopped; hdma = s.hdma; dmg = s.dmg }

-- where the instruction starts again, from the parts of a state
back_at_start : (r : CpuRegisters) (i l : Bool) (h : HaltMode) (st hd d : Bool) → is_asleep h ≡ false → set_pc r.pc.0 (fetched (enabled (record { registers = r; ime = i; latch = l; halt = h; stopped = st; hdma = hd; dmg = d }))) ≡ left_by3 (record { registers = r; ime = i; latch = l; halt = h; stopped = st; hdma = hd; dmg = d })
unfolding fetched
back_at_start r i true NotHalting st hd d a = refl
back_at_start r i false NotHalting st hd d a = refl
back_at_start r i l HaltRunInterrupt st hd d a = absurd (subst T a tt)
back_at_start r i l HaltNoRunInterrupt st hd d a = absurd (subst T a tt)
back_at_start r i true HaltBug st hd d a = refl
back_at_start r i false HaltBug st hd d a = refl

pub pc_enabled : (t : Cpu) (x : Bool) → pc (if x then set_ime true (set_latch false t) else t) ≡ pc t
pc_enabled t true = refl
pc_enabled t false = refl

module _ {W : Type 0} (b : Bus W) where
  abbrev refused_there : W → ℕ → Cpu → List Access → Performed W Ended
  refused_there v p c l = ended_as (record { outcome = Refused IllegalOpcode; cpu = c }) (b.after_read Fetch v p) (l ++ Read Fetch p ∷ [])

  left_same : {s t : Cpu} {m w : W} {l : List Access} → Woke b s m l t w → left_by3 t ≡ left_by3 s
  left_same (was_awake a) = refl
  left_same (woke_dmg a p d) = refl
  left_same (woke_cgb a p d) = refl

  illegal_run : (t : Cpu) (v : W) → is_asleep t.halt ≡ false → decode (b.sees v (pc t)) ≡ ILLEGAL → run_on b (instruction t ended) v ≡ refused_there v (pc t) (left_by3 t) []
  unfolding instruction execute run_on
  illegal_run t v a e =
      let u : Cpu = enabled t in
      ap (λ (i : Instruction). logged (Read Fetch (pc u)) (run_on b (execute (pc u) i (fetched u) ended) (b.after_read Fetch v (pc u))))
      (ap (λ (p : ℕ). decode (b.sees v p)) (pc_enabled t t.latch) ∙ e)
      ∙ ap (λ (p : ℕ). refused_there v p (set_pc p (fetched u)) []) (pc_enabled t t.latch)
      ∙ ap (λ (c : Cpu). refused_there v (pc t) c []) (back_at_start t.registers t.ime t.latch t.halt t.stopped t.hdma t.dmg a)

  -- 3, on any memory: point 3's accesses are l and leave t and w, point 4 leaves v; then comes the fetch
  pub refusal_3 : (s : Cpu) (m : W) {l : List Access} {t : Cpu} {w v : W} → b.size m ≡ 65536 → flags s % 16 ≡ 0 → s.stopped ≡ false → s.hdma ≡ false → Woke b s m l t w → Passed b t w v → decode (b.sees v (pc s)) ≡ ILLEGAL → step_on b s m ≡ record { value = record { outcome = Refused IllegalOpcode; cpu = left_by3 s }; memory = b.after_read Fetch v (pc s); accesses = l ++ Read Fetch (pc s) ∷ [] }
  unfolding step_on
  refusal_3 s m {l = l} {t = t} {w = w} {v = v} z f r h woke passed e =
      ap (λ (x : Admission). admitted x b s m) (accepts b s m z f)
      ∙ wakes b s m r h woke
      ∙ ap (after l) (passes b t w passed ∙ illegal_run t v (woke_awake b woke) (ap (λ (p : ℕ). decode (b.sees v p)) (woke_pc b woke) ∙ e))
      ∙ ap (λ (p : ℕ). refused_there v p (left_by3 t) l) (woke_pc b woke)
      ∙ ap (λ (c : Cpu). refused_there v (pc s) c l) (left_same woke)

-- 3 on plain memory: "bytes unchanged", "the fetch and step 3's idle accesses counted".

module _ (s : Cpu) (m : List ℕ) where
  pub refusal_3_plain : length m ≡ 65536 → flags s % 16 ≡ 0 → s.stopped ≡ false → s.hdma ≡ false → (T (is_asleep s.halt) → is_pending (pending m) ≡ true) → (T s.ime → is_pending (pending m) ≡ false) → decode (byte_at m (pc s)) ≡ ILLEGAL → step_on plain s m ≡ record { value = record { outcome = Refused IllegalOpcode; cpu = left_by3 s }; memory = m; accesses = idles s ++ Read Fetch (pc s) ∷ [] }
  refusal_3_plain z f r h wake calm e =
      refusal_3 plain s m z f r h (woke_plain s m wake) (passed_plain m (roused_from s) s.ime (same_ime s (is_asleep s.halt)) calm) e
