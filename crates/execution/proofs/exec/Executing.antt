-- One instruction: its operand, what it does, where its result goes, one after another.
use mathlib.Core.Bool.{◌&&◌}
use mathlib.Core.List.{List}
use Prim.Native.Nat.{ℕ}
use lib.Dec.{T}
use Rattle.sm83.specs.declared.Cpu.{Cpu}
use Rattle.definition.specs.Execution.{◌>>=◌, ◌>>◌, give}
use Rattle.instruction.specs.declared.Instruction.{Instruction}
use Rattle.bus.specs.declared.Port.{Port}
use Rattle.bus.specs.Leads.{Leads}
use Rattle.operands.specs.Operands.{read_operand, write_operand}
use Rattle.execution.specs.Mirror.{compute, exec_row}
use Rattle.execution.specs.declared.Made.{Made}
use Rattle.instruction.specs.Operand.{readable, writable}
use Rattle.execution.specs.Runnable.{executable, runnable}
use Rattle.opcodes.proofs.Tested.{and_left, and_right}
use Rattle.bus.proofs.Leading.{after}

module _ (s t u w : Cpu) (port port1 port2 port3 : Port) (m m1 m2 m3 : List ℕ) (i : Instruction) (at v : ℕ) (a : Made) where
  pub executed : Leads (read_operand i.src) s port m v t port1 m1 → Leads (compute i.opcode at v) t port1 m1 a u port2 m2 → Leads (write_operand i.dest a.value) u port2 m2 tt w port3 m3 → Leads (exec_row i at) s port m a.outcome w port3 m3
  unfolding exec_row
  executed first second third =
      after s t w port port1 port3 m m1 m3 (read_operand i.src) (λ x. compute i.opcode at x >>= λ y. write_operand i.dest y.value >> give y.outcome) v _ first
      (after t u w port1 port2 port3 m1 m2 m3 (compute i.opcode at v) (λ y. write_operand i.dest y.value >> give y.outcome) a _ second (λ k. third (λ _ x. k a.outcome x)))

-- what an instruction that can be run is made of
module _ (i : Instruction) (can : T (runnable i)) where
  operands : T (readable i.src && writable i.dest)
  operands = and_left (readable i.src && writable i.dest) (executable i.opcode) can

  pub can_read : T (readable i.src)
  can_read = and_left (readable i.src) (writable i.dest) operands

  pub can_write : T (writable i.dest)
  can_write = and_right (readable i.src) (writable i.dest) operands

  pub can_compute : T (executable i.opcode)
  can_compute = and_right (readable i.src && writable i.dest) (executable i.opcode) can
