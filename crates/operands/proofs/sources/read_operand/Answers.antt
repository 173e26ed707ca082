-- Shows each operand: one law, and what the arm's own callee answers.
use mathlib.Core.Path.{refl}
use Rattle.sm83.specs.Basics.{next, back}
use Rattle.definition.specs.Bus.{Operand}
use Rattle.definition.specs.Execution.{load, give}
use Rattle.instruction.specs.declared.OperandType.TheVariants as ot
use Rattle.operands.specs.Operands.{read_operand, read_moving}
use Rattle.bus.proofs.Leading.{arm, renamed}
use Rattle.operands.proofs.Kept.{here}
use Rattle.operands.proofs.Moving.{moved}
use Rattle.operands.proofs.sources.read_operand.Goals as goal

pub returns-in-RegA : goal.returns-in-RegA
unfolding read_operand
returns-in-RegA c = arm read_operand ot.RegA c.in-RegA.is (here c.held.ensures) (λ k. refl)

pub returns-in-RegB : goal.returns-in-RegB
unfolding read_operand
returns-in-RegB c = arm read_operand ot.RegB c.in-RegB.is (here c.held-in-RegB.ensures) (λ k. refl)

pub returns-in-RegC : goal.returns-in-RegC
unfolding read_operand
returns-in-RegC c = arm read_operand ot.RegC c.in-RegC.is (here c.held-in-RegC.ensures) (λ k. refl)

pub returns-in-RegD : goal.returns-in-RegD
unfolding read_operand
returns-in-RegD c = arm read_operand ot.RegD c.in-RegD.is (here c.held-in-RegD.ensures) (λ k. refl)

pub returns-in-RegE : goal.returns-in-RegE
unfolding read_operand
returns-in-RegE c = arm read_operand ot.RegE c.in-RegE.is (here c.held-in-RegE.ensures) (λ k. refl)

pub returns-in-RegH : goal.returns-in-RegH
unfolding read_operand
returns-in-RegH c = arm read_operand ot.RegH c.in-RegH.is (here c.held-in-RegH.ensures) (λ k. refl)

pub returns-in-RegL : goal.returns-in-RegL
unfolding read_operand
returns-in-RegL c = arm read_operand ot.RegL c.in-RegL.is (here c.held-in-RegL.ensures) (λ k. refl)

pub returns-in-AddrHL : goal.returns-in-AddrHL
unfolding read_operand
returns-in-AddrHL c = arm read_operand ot.AddrHL c.in-AddrHL.is (renamed (load Operand) c.reg_hl_read.ensures c.load.ensures) (λ k. refl)

pub returns-in-AddrHLDec : goal.returns-in-AddrHLDec
unfolding read_operand
returns-in-AddrHLDec c = arm read_operand ot.AddrHLDec c.in-AddrHLDec.is (moved read_moving back c.reg_hl_read.ensures c.wrapping_sub.ensures c.read_moving.ensures) (λ k. refl)

pub returns-in-AddrHLInc : goal.returns-in-AddrHLInc
unfolding read_operand
returns-in-AddrHLInc c = arm read_operand ot.AddrHLInc c.in-AddrHLInc.is (moved read_moving next c.reg_hl_read.ensures c.wrapping_add.ensures c.read_moving-in-AddrHLInc.ensures) (λ k. refl)

pub returns-in-AddrBC : goal.returns-in-AddrBC
unfolding read_operand
returns-in-AddrBC c = arm read_operand ot.AddrBC c.in-AddrBC.is (renamed (load Operand) c.reg_bc_read.ensures c.load-in-AddrBC.ensures) (λ k. refl)

pub returns-in-AddrDE : goal.returns-in-AddrDE
unfolding read_operand
returns-in-AddrDE c = arm read_operand ot.AddrDE c.in-AddrDE.is (renamed (load Operand) c.reg_de_read.ensures c.load-in-AddrDE.ensures) (λ k. refl)

pub returns-in-RegAF : goal.returns-in-RegAF
unfolding read_operand
returns-in-RegAF c = arm read_operand ot.RegAF c.in-RegAF.is (renamed give c.reg_af_read.ensures (here c.held-in-RegAF.ensures)) (λ k. refl)

pub returns-in-RegBC : goal.returns-in-RegBC
unfolding read_operand
returns-in-RegBC c = arm read_operand ot.RegBC c.in-RegBC.is (renamed give c.reg_bc_read-in-RegBC.ensures (here c.held-in-RegBC.ensures)) (λ k. refl)

pub returns-in-RegDE : goal.returns-in-RegDE
unfolding read_operand
returns-in-RegDE c = arm read_operand ot.RegDE c.in-RegDE.is (renamed give c.reg_de_read-in-RegDE.ensures (here c.held-in-RegDE.ensures)) (λ k. refl)

pub returns-in-RegHL : goal.returns-in-RegHL
unfolding read_operand
returns-in-RegHL c = arm read_operand ot.RegHL c.in-RegHL.is (renamed give c.reg_hl_read-in-RegHL.ensures (here c.held-in-RegHL.ensures)) (λ k. refl)

pub returns-in-RegSP : goal.returns-in-RegSP
unfolding read_operand
returns-in-RegSP c = arm read_operand ot.RegSP c.in-RegSP.is (here c.held-in-RegSP.ensures) (λ k. refl)

pub returns-in-Imm8 : goal.returns-in-Imm8
unfolding read_operand
returns-in-Imm8 c = arm read_operand ot.Imm8 c.in-Imm8.is c.read_imm8.ensures (λ k. refl)

pub returns-in-Imm8Signed : goal.returns-in-Imm8Signed
unfolding read_operand
returns-in-Imm8Signed c = arm read_operand ot.Imm8Signed c.in-Imm8Signed.is c.read_signed.ensures (λ k. refl)

pub returns-in-Imm16 : goal.returns-in-Imm16
unfolding read_operand
returns-in-Imm16 c = arm read_operand ot.Imm16 c.in-Imm16.is c.fetch16.ensures (λ k. refl)

pub returns-in-HighAddr8 : goal.returns-in-HighAddr8
unfolding read_operand
returns-in-HighAddr8 c = arm read_operand ot.HighAddr8 c.in-HighAddr8.is c.read_high.ensures (λ k. refl)

pub returns-in-HighAddrC : goal.returns-in-HighAddrC
unfolding read_operand
returns-in-HighAddrC c = arm read_operand ot.HighAddrC c.in-HighAddrC.is (renamed (load Operand) c.high.ensures c.load-in-HighAddrC.ensures) (λ k. refl)

pub returns-in-Addr16 : goal.returns-in-Addr16
unfolding read_operand
returns-in-Addr16 c = arm read_operand ot.Addr16 c.in-Addr16.is c.read_at16.ensures (λ k. refl)

pub returns-in-Implied : goal.returns-in-Implied
unfolding read_operand
returns-in-Implied c = arm read_operand ot.Implied c.in-Implied.is (here c.held-in-Implied.ensures) (λ k. refl)
