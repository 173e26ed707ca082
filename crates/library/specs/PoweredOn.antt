-- What the call at power-on answers and leaves: 0, and the 24 bytes of a state at power-on; 255 and nothing changed for a block of another length or an unknown model.
use Rattle.std.specs.Prelude.{Bool, true, ◌&&◌, List, [], ◌∷◌, ◌++◌, ℕ, eqb, leb, length, get_or, if◌then◌else◌}
use Rattle.sm83.specs.declared.Cpu.{Cpu}
use Rattle.sm83.specs.PowerOn.{cpu_dmg, cpu_cgb, cpu_cgb_dmg, cpu_zero}
use Rattle.blocks.specs.Bytes.{filled}
use Rattle.blocks.specs.StateBlock.{state_fields}

pub record LeftByPowerOn : Type 0 where
  pub number : ℕ
  pub state : List ℕ

abbrev pub left_by_power_on : ℕ → List ℕ → LeftByPowerOn
left_by_power_on n state = record { number = n; state = state }

-- 0 DMG, 1 CGB, 2 CGB with a DMG cartridge, 3 every register 0, on a DMG
abbrev pub state_of_model : ℕ → Cpu
state_of_model model = get_or (cpu_dmg ∷ cpu_cgb ∷ cpu_cgb_dmg ∷ []) model (cpu_zero true)

abbrev pub known : ℕ → Bool
known model = leb model 3

-- the eighteen bytes of a state, and the six reserved ones
abbrev pub reserved_zeros : List ℕ
reserved_zeros = 0 ∷ 0 ∷ 0 ∷ 0 ∷ 0 ∷ 0 ∷ []

abbrev pub whole_fields : Cpu → List ℕ
whole_fields cpu = state_fields cpu ++ reserved_zeros

unfoldable pub powered_on : ℕ → List ℕ → LeftByPowerOn
powered_on model state =
    if known model && eqb (length state) 24 then left_by_power_on 0 (filled 24 (whole_fields (state_of_model model)) state) else left_by_power_on 255 state
