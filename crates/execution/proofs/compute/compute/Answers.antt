-- Shows each opcode: one law for an arm that uses the bus, one for an arm that only computes, and what the arm's own callee answers.
use mathlib.Core.Path.{refl}
use Prim.Native.Nat.{ℕ}
use Rattle.instruction.specs.declared.Opcode.{Opcode}
use Rattle.instruction.specs.declared.Opcode.TheVariants as op
use Rattle.definition.specs.Step.{Ended}
use Rattle.definition.specs.Execution.{Does}
use Rattle.execution.specs.Mirror.{compute, after_idle_made, jump_made}
use Rattle.execution.specs.declared.Made.{Made}
use Rattle.bus.proofs.Leading.{arm, renamed}
use Rattle.execution.proofs.compute.Computing.{computes, below_eight}
use Rattle.execution.proofs.compute.compute.Goals as goal

-- what each opcode does, with the address and the operand that the match is given
abbrev does : ℕ → ℕ → Opcode → Does Ended Made
does at src o = compute o at src

pub returns-in-Nop : goal.returns-in-Nop
unfolding compute jump_made
returns-in-Nop c = computes (does c.args.at.0 c.args.src) op.Nop c.in-Nop.is c.normal.ensures (λ k. refl)

pub returns-in-Ld : goal.returns-in-Ld
unfolding compute jump_made
returns-in-Ld c = computes (does c.args.at.0 c.args.src) op.Ld c.in-Ld.is c.normal-in-Ld.ensures (λ k. refl)

pub returns-in-LdBB : goal.returns-in-LdBB
unfolding compute jump_made
returns-in-LdBB c = computes (does c.args.at.0 c.args.src) op.LdBB c.in-LdBB.is c.breakpoint.ensures (λ k. refl)

pub returns-in-LdSPHL : goal.returns-in-LdSPHL
unfolding compute jump_made
returns-in-LdSPHL c = arm (does c.args.at.0 c.args.src) op.LdSPHL c.in-LdSPHL.is c.ld_sp_hl.ensures (λ k. refl)

pub returns-in-LdHLSPSigned8 : goal.returns-in-LdHLSPSigned8
unfolding compute jump_made
returns-in-LdHLSPSigned8 c = arm (does c.args.at.0 c.args.src) op.LdHLSPSigned8 c.in-LdHLSPSigned8.is c.ld_hl_sp.ensures (λ k. refl)

pub returns-in-Push : goal.returns-in-Push
unfolding compute jump_made
returns-in-Push c = arm (does c.args.at.0 c.args.src) op.Push c.in-Push.is c.push_word.ensures (λ k. refl)

pub returns-in-Pop : goal.returns-in-Pop
unfolding compute jump_made
returns-in-Pop c = arm (does c.args.at.0 c.args.src) op.Pop c.in-Pop.is c.pop_word.ensures (λ k. refl)

pub returns-in-Inc16 : goal.returns-in-Inc16
unfolding compute jump_made
returns-in-Inc16 c = arm (does c.args.at.0 c.args.src) op.Inc16 c.in-Inc16.is (renamed after_idle_made c.wrapping_add.ensures c.after_idle.ensures) (λ k. refl)

pub returns-in-Inc : goal.returns-in-Inc
unfolding compute jump_made
returns-in-Inc c = computes (does c.args.at.0 c.args.src) op.Inc c.in-Inc.is (rw c.inc.ensures at c.with_result.ensures) (λ k. refl)

pub returns-in-Dec16 : goal.returns-in-Dec16
unfolding compute jump_made
returns-in-Dec16 c = arm (does c.args.at.0 c.args.src) op.Dec16 c.in-Dec16.is (renamed after_idle_made c.wrapping_sub.ensures c.after_idle-in-Dec16.ensures) (λ k. refl)

pub returns-in-Dec : goal.returns-in-Dec
unfolding compute jump_made
returns-in-Dec c = computes (does c.args.at.0 c.args.src) op.Dec c.in-Dec.is (rw c.dec.ensures at c.with_result-in-Dec.ensures) (λ k. refl)

pub returns-in-Add : goal.returns-in-Add
unfolding compute jump_made
returns-in-Add c = computes (does c.args.at.0 c.args.src) op.Add c.in-Add.is (rw c.add.ensures at c.with_result-in-Add.ensures) (λ k. refl)

pub returns-in-Add16 : goal.returns-in-Add16
unfolding compute jump_made
returns-in-Add16 c = arm (does c.args.at.0 c.args.src) op.Add16 c.in-Add16.is c.add_hl.ensures (λ k. refl)

pub returns-in-AddSPSigned8 : goal.returns-in-AddSPSigned8
unfolding compute jump_made
returns-in-AddSPSigned8 c = arm (does c.args.at.0 c.args.src) op.AddSPSigned8 c.in-AddSPSigned8.is c.add_sp.ensures (λ k. refl)

pub returns-in-Adc : goal.returns-in-Adc
unfolding compute jump_made
returns-in-Adc c = computes (does c.args.at.0 c.args.src) op.Adc c.in-Adc.is (rw c.adc.ensures at c.with_result-in-Adc.ensures) (λ k. refl)

pub returns-in-Sub : goal.returns-in-Sub
unfolding compute jump_made
returns-in-Sub c = computes (does c.args.at.0 c.args.src) op.Sub c.in-Sub.is (rw c.sub.ensures at c.with_result-in-Sub.ensures) (λ k. refl)

pub returns-in-Cp : goal.returns-in-Cp
unfolding compute jump_made
returns-in-Cp c = computes (does c.args.at.0 c.args.src) op.Cp c.in-Cp.is (rw c.cp.ensures at c.with_flags.ensures) (λ k. refl)

pub returns-in-Sbc : goal.returns-in-Sbc
unfolding compute jump_made
returns-in-Sbc c = computes (does c.args.at.0 c.args.src) op.Sbc c.in-Sbc.is (rw c.sbc.ensures at c.with_result-in-Sbc.ensures) (λ k. refl)

pub returns-in-And : goal.returns-in-And
unfolding compute jump_made
returns-in-And c = computes (does c.args.at.0 c.args.src) op.And c.in-And.is (rw c.and.ensures at c.with_result-in-And.ensures) (λ k. refl)

pub returns-in-Xor : goal.returns-in-Xor
unfolding compute jump_made
returns-in-Xor c = computes (does c.args.at.0 c.args.src) op.Xor c.in-Xor.is (rw c.xor.ensures at c.with_result-in-Xor.ensures) (λ k. refl)

pub returns-in-Or : goal.returns-in-Or
unfolding compute jump_made
returns-in-Or c = computes (does c.args.at.0 c.args.src) op.Or c.in-Or.is (rw c.or.ensures at c.with_result-in-Or.ensures) (λ k. refl)

pub returns-in-Jp : goal.returns-in-Jp
unfolding compute jump_made
returns-in-Jp c = arm (does c.args.at.0 c.args.src) (op.Jp _) c.in-Jp.is c.jp.ensures (λ k. refl)

pub returns-in-JpHL : goal.returns-in-JpHL
unfolding compute jump_made
returns-in-JpHL c = computes (does c.args.at.0 c.args.src) op.JpHL c.in-JpHL.is c.jump.ensures (λ k. refl)

pub returns-in-Jr : goal.returns-in-Jr
unfolding compute jump_made
returns-in-Jr c = arm (does c.args.at.0 c.args.src) (op.Jr _) c.in-Jr.is c.jr.ensures (λ k. refl)

pub returns-in-Call : goal.returns-in-Call
unfolding compute jump_made
returns-in-Call c = arm (does c.args.at.0 c.args.src) (op.Call _) c.in-Call.is c.call.ensures (λ k. refl)

pub returns-in-Ret : goal.returns-in-Ret
unfolding compute jump_made
returns-in-Ret c = arm (does c.args.at.0 c.args.src) (op.Ret _) c.in-Ret.is c.ret.ensures (λ k. refl)

pub returns-in-Reti : goal.returns-in-Reti
unfolding compute jump_made
returns-in-Reti c = arm (does c.args.at.0 c.args.src) op.Reti c.in-Reti.is c.reti.ensures (λ k. refl)

pub returns-in-Rst : goal.returns-in-Rst
unfolding compute jump_made
returns-in-Rst c = arm (does c.args.at.0 c.args.src) (op.Rst _) c.in-Rst.is c.call_to.ensures (λ k. refl)

pub returns-in-Di : goal.returns-in-Di
unfolding compute jump_made
returns-in-Di c = computes (does c.args.at.0 c.args.src) op.Di c.in-Di.is c.di.ensures (λ k. refl)

pub returns-in-Ei : goal.returns-in-Ei
unfolding compute jump_made
returns-in-Ei c = computes (does c.args.at.0 c.args.src) op.Ei c.in-Ei.is c.ei.ensures (λ k. refl)

pub returns-in-Ccf : goal.returns-in-Ccf
unfolding compute jump_made
returns-in-Ccf c = computes (does c.args.at.0 c.args.src) op.Ccf c.in-Ccf.is (rw c.ccf.ensures at c.with_a.ensures) (λ k. refl)

pub returns-in-Scf : goal.returns-in-Scf
unfolding compute jump_made
returns-in-Scf c = computes (does c.args.at.0 c.args.src) op.Scf c.in-Scf.is (rw c.scf.ensures at c.with_a-in-Scf.ensures) (λ k. refl)

pub returns-in-Daa : goal.returns-in-Daa
unfolding compute jump_made
returns-in-Daa c = computes (does c.args.at.0 c.args.src) op.Daa c.in-Daa.is (rw c.daa.ensures at c.with_a-in-Daa.ensures) (λ k. refl)

pub returns-in-Cpl : goal.returns-in-Cpl
unfolding compute jump_made
returns-in-Cpl c = computes (does c.args.at.0 c.args.src) op.Cpl c.in-Cpl.is (rw c.cpl.ensures at c.with_a-in-Cpl.ensures) (λ k. refl)

pub returns-in-Rlca : goal.returns-in-Rlca
unfolding compute jump_made
returns-in-Rlca c = computes (does c.args.at.0 c.args.src) op.Rlca c.in-Rlca.is (rw c.rlca.ensures at c.with_a-in-Rlca.ensures) (λ k. refl)

pub returns-in-Rla : goal.returns-in-Rla
unfolding compute jump_made
returns-in-Rla c = computes (does c.args.at.0 c.args.src) op.Rla c.in-Rla.is (rw c.rla.ensures at c.with_a-in-Rla.ensures) (λ k. refl)

pub returns-in-Rrca : goal.returns-in-Rrca
unfolding compute jump_made
returns-in-Rrca c = computes (does c.args.at.0 c.args.src) op.Rrca c.in-Rrca.is (rw c.rrca.ensures at c.with_a-in-Rrca.ensures) (λ k. refl)

pub returns-in-Rra : goal.returns-in-Rra
unfolding compute jump_made
returns-in-Rra c = computes (does c.args.at.0 c.args.src) op.Rra c.in-Rra.is (rw c.rra.ensures at c.with_a-in-Rra.ensures) (λ k. refl)

pub returns-in-Rlc : goal.returns-in-Rlc
unfolding compute jump_made
returns-in-Rlc c = computes (does c.args.at.0 c.args.src) op.Rlc c.in-Rlc.is (rw c.rlc.ensures at c.with_result-in-Rlc.ensures) (λ k. refl)

pub returns-in-Rrc : goal.returns-in-Rrc
unfolding compute jump_made
returns-in-Rrc c = computes (does c.args.at.0 c.args.src) op.Rrc c.in-Rrc.is (rw c.rrc.ensures at c.with_result-in-Rrc.ensures) (λ k. refl)

pub returns-in-Rl : goal.returns-in-Rl
unfolding compute jump_made
returns-in-Rl c = computes (does c.args.at.0 c.args.src) op.Rl c.in-Rl.is (rw c.rl.ensures at c.with_result-in-Rl.ensures) (λ k. refl)

pub returns-in-Rr : goal.returns-in-Rr
unfolding compute jump_made
returns-in-Rr c = computes (does c.args.at.0 c.args.src) op.Rr c.in-Rr.is (rw c.rr.ensures at c.with_result-in-Rr.ensures) (λ k. refl)

pub returns-in-Sla : goal.returns-in-Sla
unfolding compute jump_made
returns-in-Sla c = computes (does c.args.at.0 c.args.src) op.Sla c.in-Sla.is (rw c.sla.ensures at c.with_result-in-Sla.ensures) (λ k. refl)

pub returns-in-Sra : goal.returns-in-Sra
unfolding compute jump_made
returns-in-Sra c = computes (does c.args.at.0 c.args.src) op.Sra c.in-Sra.is (rw c.sra.ensures at c.with_result-in-Sra.ensures) (λ k. refl)

pub returns-in-Swap : goal.returns-in-Swap
unfolding compute jump_made
returns-in-Swap c = computes (does c.args.at.0 c.args.src) op.Swap c.in-Swap.is (rw c.swap.ensures at c.with_result-in-Swap.ensures) (λ k. refl)

pub returns-in-Srl : goal.returns-in-Srl
unfolding compute jump_made
returns-in-Srl c = computes (does c.args.at.0 c.args.src) op.Srl c.in-Srl.is (rw c.srl.ensures at c.with_result-in-Srl.ensures) (λ k. refl)

pub returns-in-Bit : goal.returns-in-Bit
unfolding compute jump_made
returns-in-Bit c = computes (does c.args.at.0 c.args.src) (op.Bit _) c.in-Bit.is (rw (c.bit.ensures, below_eight _ (rw c.in-Bit.is at c.requires)) at c.with_flags-in-Bit.ensures) (λ k. refl)

pub returns-in-Res : goal.returns-in-Res
unfolding compute jump_made
returns-in-Res c = computes (does c.args.at.0 c.args.src) (op.Res _) c.in-Res.is (rw (c.res.ensures, below_eight _ (rw c.in-Res.is at c.requires)) at c.normal-in-Res.ensures) (λ k. refl)

pub returns-in-Set : goal.returns-in-Set
unfolding compute jump_made
returns-in-Set c = computes (does c.args.at.0 c.args.src) (op.Set _) c.in-Set.is (rw (c.set.ensures, below_eight _ (rw c.in-Set.is at c.requires)) at c.normal-in-Set.ensures) (λ k. refl)

pub returns-in-Halt : goal.returns-in-Halt
unfolding compute jump_made
returns-in-Halt c = arm (does c.args.at.0 c.args.src) op.Halt c.in-Halt.is c.halt.ensures (λ k. refl)

pub returns-in-Stop : goal.returns-in-Stop
unfolding compute jump_made
returns-in-Stop c = computes (does c.args.at.0 c.args.src) op.Stop c.in-Stop.is c.stop.ensures (λ k. refl)

pub returns-in-Illegal : goal.returns-in-Illegal
unfolding compute jump_made
returns-in-Illegal c = computes (does c.args.at.0 c.args.src) op.Illegal c.in-Illegal.is c.illegal.ensures (λ k. refl)
