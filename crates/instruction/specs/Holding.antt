-- When a condition holds, by F.
use Rattle.std.specs.Prelude.{Bool, true, false, not, ℕ}
use Rattle.sm83.specs.Flags.{flag_z, flag_c}
use Rattle.instruction.specs.declared.Condition.{Condition}
use Rattle.instruction.specs.declared.Condition.TheVariants as cn

-- `check_cond` of 000
unfoldable pub check_cond : Condition → ℕ → Bool
check_cond cn.NC f = not (flag_c f)
check_cond cn.C f = flag_c f
check_cond cn.NZ f = not (flag_z f)
check_cond cn.Z f = flag_z f
check_cond cn.Unconditional f = true

unfoldable pub is_unconditional : Condition → Bool
is_unconditional cn.NC = false
is_unconditional cn.C = false
is_unconditional cn.NZ = false
is_unconditional cn.Z = false
is_unconditional cn.Unconditional = true
