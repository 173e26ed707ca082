-- The values that a line of the tool shows of a state.
use Rattle.std.specs.Prelude.{ℕ, List, [], ◌∷◌}
use Rattle.sm83.specs.declared.CpuRegisters.{CpuRegisters}
use Rattle.sm83.specs.State.{pair_af, pair_bc, pair_de, pair_hl}

-- AF, BC, DE, HL, SP, PC, and F for the flags
abbrev pub values_of : CpuRegisters → List ℕ
values_of r = pair_af r ∷ pair_bc r ∷ pair_de r ∷ pair_hl r ∷ r.sp.0 ∷ r.pc.0 ∷ r.f ∷ []
