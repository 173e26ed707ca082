-- Points 5 and 6: the latch, HaltBug, one byte or two, and the row that they stand for. What the callees answer comes to the definition's `instruction`.
use Rattle.std.proofs.Common.{if◌then◌else◌}
use mathlib.Core.Path.{◌≡◌, refl, ap, sym, ◌∙◌}
use mathlib.Core.Bool.{Bool, true, false, ◌||◌}
use mathlib.Core.List.{List}
use Prim.Native.Nat.{ℕ, ◌<◌}
use borrow.Author.Tests.{ne_eqb}
use Rattle.sm83.specs.declared.Cpu.{Cpu}
use Rattle.sm83.specs.declared.HaltMode.TheVariants.{NotHalting}
use Rattle.outcome.specs.declared.Outcome.{Outcome}
use Rattle.sm83.specs.Basics.{next}
use Rattle.definition.specs.Bus.{Fetch, Ask, read}
use Rattle.sm83.specs.State.{pc, set_pc, set_ime, set_latch, set_halt}
use Rattle.opcodes.specs.Instruction.{decode, decode_cb}
use Rattle.definition.specs.Execution.{◌>>◌, byte_at_pc, prefixed, normal, execute}
use Rattle.definition.specs.Step.{Ended, is_bug, enabled, fetched, instruction}
use Rattle.ranges.proofs.Ranges.{Bytes}
use Rattle.instruction.specs.declared.Instruction.{Instruction}
use Rattle.instruction.specs.Row.{row_of, prefixed_row}
use Rattle.bus.specs.declared.Port.{Port}
use Rattle.bus.specs.World.{world, leads}
use Rattle.bus.specs.Leads.{Leads, LeadsTo}
use Rattle.bus.proofs.Bytes.{fetch_keeps}
use Rattle.execution.specs.Mirror.{exec_row}
use Rattle.step.specs.Stages.{unbugged, Fetches}
use Rattle.execution.proofs.Small.{ByteRegisters}
use Rattle.execution.proofs.Bridge.{row_leads, prefixed_row_leads, row_runs, prefixed_row_runs}

-- 5. with no branch: IME or the latch
pub latched : (s : Cpu) → set_ime (s.ime || s.latch) (set_latch false s) ≡ enabled s
latched s = by_bits s.ime s.latch
  where
    by_bits : (i l : Bool) → set_ime (i || l) (set_latch false s) ≡ (if l then set_ime true (set_latch false s) else set_ime i (set_latch l s))
    by_bits true true = refl
    by_bits true false = refl
    by_bits false true = refl
    by_bits false false = refl

-- 6. the code steps over the byte and goes back if HaltBug ends
steps_back : (s : Cpu) → fetched s ≡ unbugged (set_pc (next (pc s)) s) (pc s)
unfolding fetched
steps_back s = by_bug (is_bug s.halt)
  where
    by_bug : (b : Bool) → (if b then set_halt NotHalting s else set_pc (next (pc s)) s) ≡ (if b then set_halt NotHalting (set_pc (pc s) (set_pc (next (pc s)) s)) else set_pc (next (pc s)) s)
    by_bug true = refl
    by_bug false = refl

-- "After 0xCB fetch again."
second_byte : (at : ℕ) (v w : Cpu) (port port' : Port) (m m' : List ℕ) (y : ℕ) → Leads (byte_at_pc Fetch) v port m y w port' m' → (k : Outcome → Cpu → Ask Ended) → leads (execute at (decode 0xcb) v k) (world port m) ≡ leads ((do prefixed (decode_cb y); normal) w k) (world port' m')
unfolding execute decode byte_at_pc
second_byte at v w port port' m m' y second k = second (λ x t. (do prefixed (decode_cb x); normal) t k)

module _ (s u t : Cpu) (port port' : Port) (m m' : List ℕ) (b : ℕ) (e : u ≡ enabled s) (first : Leads (byte_at_pc Fetch) u port m b t port' m') where
  -- the first byte, and the state after it
  one_byte : LeadsTo instruction s port m (execute (pc u) (decode b)) (unbugged t (pc u)) port' m'
  unfolding instruction byte_at_pc
  one_byte k =
      ap (λ (w : Cpu). leads (read Fetch (pc w) (λ x. execute (pc w) (decode x) (fetched w) k)) (world port m)) (sym e)
      ∙ ap (λ (w : Cpu). leads (read Fetch (pc u) (λ x. execute (pc u) (decode x) w k)) (world port m)) (steps_back u)
      ∙ first (λ x w. execute (pc u) (decode x) (unbugged w (pc u)) k)

  module _ (v : Cpu) (i : Instruction) (ev : v ≡ unbugged t (pc u)) where
    from_here : LeadsTo instruction s port m (execute (pc u) (decode b)) v port' m'
    from_here k = one_byte k ∙ ap (λ (w : Cpu). leads (execute (pc u) (decode b) w k) (world port' m')) (sym ev)

    pub fetches_unprefixed : b < 256 → (b ≡ 0xcb → ⊥) → i ≡ row_of (decode b) → Bytes m → ByteRegisters v.registers → Fetches s port m (pc u) i v port' m'
    fetches_unprefixed small ne ei bytes regs = rw ei (record { left = record { there = leading }; can_run = (row_runs b small (ne_eqb b 0xcb ne)).1 })
      where
        leading : LeadsTo instruction s port m (exec_row (row_of (decode b)) (pc u)) v port' m'
        leading k = from_here k ∙ sym (row_leads (world port' m') (fetch_keeps _ _ _ _ _ _ _ _ first bytes) (pc u) v regs k (decode b) (row_runs b small (ne_eqb b 0xcb ne)).0)

    pub fetches_prefixed : (w : Cpu) (port'' : Port) (m'' : List ℕ) (y : ℕ) → b ≡ 0xcb → Leads (byte_at_pc Fetch) v port' m' y w port'' m'' → y < 256 → i ≡ prefixed_row (decode_cb y) → Bytes m → ByteRegisters w.registers → Fetches s port m (pc u) i w port'' m''
    fetches_prefixed w port'' m'' y eb second small ei bytes regs = rw ei (record { left = record { there = leading }; can_run = prefixed_row_runs y small })
      where
        leading : LeadsTo instruction s port m (exec_row (prefixed_row (decode_cb y)) (pc u)) w port'' m''
        leading k =
            from_here k
            ∙ ap (λ (x : ℕ). leads (execute (pc u) (decode x) v k) (world port' m')) eb
            ∙ second_byte (pc u) v w port' port'' m' m'' y second k
            ∙ sym (prefixed_row_leads (world port'' m'') (fetch_keeps _ _ _ _ _ _ _ _ second (fetch_keeps _ _ _ _ _ _ _ _ first bytes)) (pc u) w regs k y)

-- 7. the instruction that the entry stands for is executed
pub executes : (s t u : Cpu) (port port' port'' : Port) (m m' m'' : List ℕ) (at : ℕ) (i j : Instruction) (o : Outcome) → LeadsTo instruction s port m (exec_row i at) t port' m' → j ≡ i → Leads (exec_row j at) t port' m' o u port'' m'' → Leads instruction s port m o u port'' m''
executes s t u port port' port'' m m' m'' at i j o fetches e l k = fetches k ∙ ap (λ (x : Instruction). leads (exec_row x at t k) (world port' m')) (sym e) ∙ l k
