-- Shows each destination: one law, and what the arm's own callee leaves.
use mathlib.Core.Path.{refl}
use Prim.Native.Nat.{ℕ}
use Rattle.sm83.specs.Basics.{low_byte, next, back}
use Rattle.sm83.specs.declared.CpuRegisters.{CpuRegisters}
use Rattle.instruction.specs.declared.OperandType.{OperandType}
use Rattle.instruction.specs.declared.OperandType.TheVariants as ot
use Rattle.definition.specs.Bus.{Operand}
use Rattle.definition.specs.Step.{Ended}
use Rattle.definition.specs.Execution.{Does, set_reg, store}
use Rattle.operands.specs.Operands.{write_operand, write_moving}
use Rattle.bus.proofs.Leading.{arm, renamed}
use Rattle.operands.proofs.Kept.{here}
use Rattle.operands.proofs.Moving.{moved}
use Rattle.operands.proofs.destinations.write_operand.Goals as goal

-- a value to a kind of destination, to an address; registers put back

abbrev to : ℕ → OperandType → Does Ended (Unit {0})
to v kind = write_operand kind v

abbrev stored : ℕ → ℕ → Does Ended (Unit {0})
stored v a = store Operand a (low_byte v)

abbrev moving : ℕ → ℕ → ℕ → Does Ended (Unit {0})
moving v hl after = write_moving hl after (low_byte v)

abbrev put : CpuRegisters → Does Ended (Unit {0})
put regs = set_reg (λ _. regs)

pub returns-in-RegA : goal.returns-in-RegA
unfolding write_operand
returns-in-RegA c = arm (to c.args.value) ot.RegA c.in-RegA.is (here c.left.ensures) (λ k. refl)

pub returns-in-RegB : goal.returns-in-RegB
unfolding write_operand
returns-in-RegB c = arm (to c.args.value) ot.RegB c.in-RegB.is (here c.left-in-RegB.ensures) (λ k. refl)

pub returns-in-RegC : goal.returns-in-RegC
unfolding write_operand
returns-in-RegC c = arm (to c.args.value) ot.RegC c.in-RegC.is (here c.left-in-RegC.ensures) (λ k. refl)

pub returns-in-RegD : goal.returns-in-RegD
unfolding write_operand
returns-in-RegD c = arm (to c.args.value) ot.RegD c.in-RegD.is (here c.left-in-RegD.ensures) (λ k. refl)

pub returns-in-RegE : goal.returns-in-RegE
unfolding write_operand
returns-in-RegE c = arm (to c.args.value) ot.RegE c.in-RegE.is (here c.left-in-RegE.ensures) (λ k. refl)

pub returns-in-RegH : goal.returns-in-RegH
unfolding write_operand
returns-in-RegH c = arm (to c.args.value) ot.RegH c.in-RegH.is (here c.left-in-RegH.ensures) (λ k. refl)

pub returns-in-RegL : goal.returns-in-RegL
unfolding write_operand
returns-in-RegL c = arm (to c.args.value) ot.RegL c.in-RegL.is (here c.left-in-RegL.ensures) (λ k. refl)

pub returns-in-AddrHL : goal.returns-in-AddrHL
unfolding write_operand
returns-in-AddrHL c = let v = c.args.value in arm (to v) ot.AddrHL c.in-AddrHL.is (renamed (stored v) c.reg_hl_read.ensures c.store.ensures) (λ k. refl)

pub returns-in-AddrHLDec : goal.returns-in-AddrHLDec
unfolding write_operand
returns-in-AddrHLDec c = arm (to c.args.value) ot.AddrHLDec c.in-AddrHLDec.is (moved (moving c.args.value) back c.reg_hl_read.ensures c.wrapping_sub.ensures c.write_moving.ensures) (λ k. refl)

pub returns-in-AddrHLInc : goal.returns-in-AddrHLInc
unfolding write_operand
returns-in-AddrHLInc c = arm (to c.args.value) ot.AddrHLInc c.in-AddrHLInc.is (moved (moving c.args.value) next c.reg_hl_read.ensures c.wrapping_add.ensures c.write_moving-in-AddrHLInc.ensures) (λ k. refl)

pub returns-in-AddrBC : goal.returns-in-AddrBC
unfolding write_operand
returns-in-AddrBC c = let v = c.args.value in arm (to v) ot.AddrBC c.in-AddrBC.is (renamed (stored v) c.reg_bc_read.ensures c.store-in-AddrBC.ensures) (λ k. refl)

pub returns-in-AddrDE : goal.returns-in-AddrDE
unfolding write_operand
returns-in-AddrDE c = let v = c.args.value in arm (to v) ot.AddrDE c.in-AddrDE.is (renamed (stored v) c.reg_de_read.ensures c.store-in-AddrDE.ensures) (λ k. refl)

pub returns-in-RegAF : goal.returns-in-RegAF
unfolding write_operand
returns-in-RegAF c = arm (to c.args.value) ot.RegAF c.in-RegAF.is (renamed put c.reg_af_write.ensures (here c.left-in-RegAF.ensures)) (λ k. refl)

pub returns-in-RegBC : goal.returns-in-RegBC
unfolding write_operand
returns-in-RegBC c = arm (to c.args.value) ot.RegBC c.in-RegBC.is (renamed put c.reg_bc_write.ensures (here c.left-in-RegBC.ensures)) (λ k. refl)

pub returns-in-RegDE : goal.returns-in-RegDE
unfolding write_operand
returns-in-RegDE c = arm (to c.args.value) ot.RegDE c.in-RegDE.is (renamed put c.reg_de_write.ensures (here c.left-in-RegDE.ensures)) (λ k. refl)

pub returns-in-RegHL : goal.returns-in-RegHL
unfolding write_operand
returns-in-RegHL c = arm (to c.args.value) ot.RegHL c.in-RegHL.is (renamed put c.reg_hl_write.ensures (here c.left-in-RegHL.ensures)) (λ k. refl)

pub returns-in-RegSP : goal.returns-in-RegSP
unfolding write_operand
returns-in-RegSP c = arm (to c.args.value) ot.RegSP c.in-RegSP.is (here c.left-in-RegSP.ensures) (λ k. refl)

pub returns-in-HighAddr8 : goal.returns-in-HighAddr8
unfolding write_operand
returns-in-HighAddr8 c = arm (to c.args.value) ot.HighAddr8 c.in-HighAddr8.is c.write_high.ensures (λ k. refl)

pub returns-in-HighAddrC : goal.returns-in-HighAddrC
unfolding write_operand
returns-in-HighAddrC c = let v = c.args.value in arm (to v) ot.HighAddrC c.in-HighAddrC.is (renamed (stored v) c.high.ensures c.store-in-HighAddrC.ensures) (λ k. refl)

pub returns-in-Addr16 : goal.returns-in-Addr16
unfolding write_operand
returns-in-Addr16 c = arm (to c.args.value) ot.Addr16 c.in-Addr16.is c.write_at16.ensures (λ k. refl)

pub returns-in-Addr16Val16 : goal.returns-in-Addr16Val16
unfolding write_operand
returns-in-Addr16Val16 c = arm (to c.args.value) ot.Addr16Val16 c.in-Addr16Val16.is c.write_word_at16.ensures (λ k. refl)

pub returns-in-Implied : goal.returns-in-Implied
unfolding write_operand
returns-in-Implied c = arm (to c.args.value) ot.Implied c.in-Implied.is (here c.left-in-Implied.ensures) (λ k. refl)
