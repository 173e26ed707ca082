-- The contracts of the constructors, pairs, flags and addresses leave one answer to every input.
use Rattle.std.proofs.Common.{ℕ, sym, ap, ◌∙◌}
use Rattle.sm83.proofs.OneAnswer.{OneAnswer}
use Rattle.sm83.proofs.Cpu.new.Reads as Cpu-new
use Rattle.sm83.proofs.Cpu.dmg.Reads as Cpu-dmg
use Rattle.sm83.proofs.Cpu.cgb.Reads as Cpu-cgb
use Rattle.sm83.proofs.Cpu.cgb_dmg.Reads as Cpu-cgb-dmg
use Rattle.sm83.proofs.Cpu.awake_with.Reads as Cpu-awake-with
use Rattle.sm83.proofs.CpuRegisters.zero.Reads as CpuRegisters-zero
use Rattle.sm83.proofs.CpuRegisters.dmg.Reads as CpuRegisters-dmg
use Rattle.sm83.proofs.CpuRegisters.cgb.Reads as CpuRegisters-cgb
use Rattle.sm83.proofs.CpuRegisters.cgb_dmg.Reads as CpuRegisters-cgb-dmg
use Rattle.sm83.proofs.CpuRegisters.reg_af_read.Reads as reg_af_read
use Rattle.sm83.proofs.CpuRegisters.reg_bc_read.Reads as reg_bc_read
use Rattle.sm83.proofs.CpuRegisters.reg_de_read.Reads as reg_de_read
use Rattle.sm83.proofs.CpuRegisters.reg_hl_read.Reads as reg_hl_read
use Rattle.sm83.proofs.CpuRegisters.reg_af_write.Reads as reg_af_write
use Rattle.sm83.proofs.CpuRegisters.reg_bc_write.Reads as reg_bc_write
use Rattle.sm83.proofs.CpuRegisters.reg_de_write.Reads as reg_de_write
use Rattle.sm83.proofs.CpuRegisters.reg_hl_write.Reads as reg_hl_write
use Rattle.sm83.proofs.flags.flag_z.Reads as flag_z_lem
use Rattle.sm83.proofs.flags.flag_n.Reads as flag_n_lem
use Rattle.sm83.proofs.flags.flag_h.Reads as flag_h_lem
use Rattle.sm83.proofs.flags.flag_c.Reads as flag_c_lem
use Rattle.sm83.proofs.registers.pair.Reads as pair
use Rattle.sm83.proofs.Addr.wrapping_add.Reads as wrapping_add
use Rattle.sm83.proofs.Addr.wrapping_sub.Reads as wrapping_sub

-- The constructors.

pub Cpu-new-determined : OneAnswer Cpu-new.Post
Cpu-new-determined κs input v w left other p q = p ∙ sym q

pub Cpu-dmg-determined : OneAnswer Cpu-dmg.Post
Cpu-dmg-determined κs input v w left other p q = p ∙ sym q

pub Cpu-cgb-determined : OneAnswer Cpu-cgb.Post
Cpu-cgb-determined κs input v w left other p q = p ∙ sym q

pub Cpu-cgb-dmg-determined : OneAnswer Cpu-cgb-dmg.Post
Cpu-cgb-dmg-determined κs input v w left other p q = p ∙ sym q

pub Cpu-awake-with-determined : OneAnswer Cpu-awake-with.Post
Cpu-awake-with-determined κs input v w left other p q = p ∙ sym q

pub CpuRegisters-zero-determined : OneAnswer CpuRegisters-zero.Post
CpuRegisters-zero-determined κs input v w left other p q = p ∙ sym q

pub CpuRegisters-dmg-determined : OneAnswer CpuRegisters-dmg.Post
CpuRegisters-dmg-determined κs input v w left other p q = p ∙ sym q

pub CpuRegisters-cgb-determined : OneAnswer CpuRegisters-cgb.Post
CpuRegisters-cgb-determined κs input v w left other p q = p ∙ sym q

pub CpuRegisters-cgb-dmg-determined : OneAnswer CpuRegisters-cgb-dmg.Post
CpuRegisters-cgb-dmg-determined κs input v w left other p q = p ∙ sym q

-- Pairs and flags.

pub reg_af_read_determined : OneAnswer reg_af_read.Post
reg_af_read_determined κs input v w left other p q = p ∙ sym q

pub reg_bc_read_determined : OneAnswer reg_bc_read.Post
reg_bc_read_determined κs input v w left other p q = p ∙ sym q

pub reg_de_read_determined : OneAnswer reg_de_read.Post
reg_de_read_determined κs input v w left other p q = p ∙ sym q

pub reg_hl_read_determined : OneAnswer reg_hl_read.Post
reg_hl_read_determined κs input v w left other p q = p ∙ sym q

pub reg_af_write_determined : OneAnswer reg_af_write.Post
reg_af_write_determined κs input v w left other p q = p ∙ sym q

pub reg_bc_write_determined : OneAnswer reg_bc_write.Post
reg_bc_write_determined κs input v w left other p q = p ∙ sym q

pub reg_de_write_determined : OneAnswer reg_de_write.Post
reg_de_write_determined κs input v w left other p q = p ∙ sym q

pub reg_hl_write_determined : OneAnswer reg_hl_write.Post
reg_hl_write_determined κs input v w left other p q = p ∙ sym q

pub flag_z_determined : OneAnswer flag_z_lem.Post
flag_z_determined κs input v w left other p q = p ∙ sym q

pub flag_n_determined : OneAnswer flag_n_lem.Post
flag_n_determined κs input v w left other p q = p ∙ sym q

pub flag_h_determined : OneAnswer flag_h_lem.Post
flag_h_determined κs input v w left other p q = p ∙ sym q

pub flag_c_determined : OneAnswer flag_c_lem.Post
flag_c_determined κs input v w left other p q = p ∙ sym q

pub pair_determined : OneAnswer pair.Post
pair_determined κs input v w left other p q = p ∙ sym q

-- Addresses and counts, each a number.

pub wrapping_add_determined : OneAnswer wrapping_add.Post
wrapping_add_determined κs input v w left other p q = ap (λ (x : ℕ). record { 0 = x }) (p ∙ sym q)

pub wrapping_sub_determined : OneAnswer wrapping_sub.Post
wrapping_sub_determined κs input v w left other p q = ap (λ (x : ℕ). record { 0 = x }) (p ∙ sym q)
