-- The row of 001's tables for each instruction of the definition leads where the definition leads, from any state and memory of bytes, whatever comes next; and the code can run each of them.
use mathlib.Core.Path.{◌≡◌, refl}
use mathlib.Core.Bool.{Bool, true, false, ◌&&◌, ◌||◌}
use Prim.Native.Nat.{ℕ, ◌<◌}
use lib.Dec.{eqb, T}
use Rattle.sm83.specs.declared.Cpu.{Cpu}
use Rattle.outcome.specs.declared.Outcome.{Outcome}
use Rattle.definition.specs.Bus.{Ask}
use Rattle.opcodes.specs.Instruction.{does, goes, CB-prefix, HALT, STOP, EI, LD-B-B, ILLEGAL, decode, decode_cb}
use Rattle.opcodes.specs.Instruction as defined
use Rattle.definition.specs.Execution.{◌>>◌, prefixed, normal, execute, executing}
use Rattle.definition.specs.Step.{Ended}
use Rattle.opcodes.proofs.Tested.{and_left, and_right, below, at}
use Rattle.instruction.specs.Row.{row_of, prefixed_row}
use Rattle.bus.specs.World.{World, leads}
use Rattle.execution.specs.Mirror.{exec_row, mirroring}
use Rattle.execution.specs.Runnable.{runnable}
use Rattle.ranges.proofs.Ranges.{Bytes}
use Rattle.execution.proofs.Small.{ByteRegisters}
use Rattle.execution.proofs.BridgeWork.{work_row_lem}
use Rattle.execution.proofs.BridgeJump.{jump_row_lem}
use Rattle.execution.proofs.BridgePrefixed.{decoded_one_of_eight, prefixed_row_lem}

-- all but the prefix, which the byte after it explains
abbrev pub unprefixed : defined.Instruction → Bool
unprefixed (does w) = true
unprefixed (goes j) = true
unprefixed CB-prefix = false
unprefixed HALT = true
unprefixed STOP = true
unprefixed EI = true
unprefixed LD-B-B = true
unprefixed ILLEGAL = true

module _ (w : World) (bytes : Bytes w.bytes) (at-pc : ℕ) (s : Cpu) (regs : ByteRegisters s.registers) (k : Outcome → Cpu → Ask Ended) where
  pub row_leads : (i : defined.Instruction) → T (unprefixed i) → leads (exec_row (row_of i) at-pc s k) w ≡ leads (execute at-pc i s k) w
  unfolding executing mirroring leads
  row_leads (does i) h = work_row_lem w bytes at-pc s regs k i
  row_leads (goes j) h = jump_row_lem at-pc s k j w
  row_leads CB-prefix h = absurd h
  row_leads HALT h = refl
  row_leads STOP h = refl
  row_leads EI h = refl
  row_leads LD-B-B h = refl
  row_leads ILLEGAL h = refl

  pub prefixed_row_leads : (b : ℕ) → leads (exec_row (prefixed_row (decode_cb b)) at-pc s k) w ≡ leads ((do prefixed (decode_cb b); normal) s k) w
  prefixed_row_leads b = prefixed_row_lem w bytes at-pc s regs k (decode_cb b) (decoded_one_of_eight b)

-- Each byte but CB is a row that the code can run, and each byte after CB: computed.

rows_tested : T (below (λ b. eqb b 0xcb || (unprefixed (decode b) && runnable (row_of (decode b)))) 256)
unfolding decode
rows_tested = tt

pub row_runs : (b : ℕ) → b < 256 → eqb b 0xcb ≡ false → T (unprefixed (decode b)) × T (runnable (row_of (decode b)))
row_runs b small e =
    let t : T (unprefixed (decode b) && runnable (row_of (decode b))) = rw e at (at (λ b. eqb b 0xcb || (unprefixed (decode b) && runnable (row_of (decode b)))) 256 rows_tested b small) in
    (and_left (unprefixed (decode b)) _ t, and_right (unprefixed (decode b)) _ t)

pub prefixed_row_runs : (b : ℕ) → b < 256 → T (runnable (prefixed_row (decode_cb b)))
unfolding decode_cb
prefixed_row_runs = at (λ b. runnable (prefixed_row (decode_cb b))) 256 tt
