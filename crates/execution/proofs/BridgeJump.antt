-- What may go elsewhere: the row of 001 leads where the definition leads. A condition is the same test on F.
use Rattle.std.proofs.Common.{if◌then◌else◌}
use mathlib.Core.Path.{◌≡◌, refl, ap, ◌∙◌}
use mathlib.Core.Bool.{Bool, true, false}
use Prim.Native.Nat.{ℕ}
use Rattle.sm83.specs.declared.Cpu.{Cpu}
use Rattle.outcome.specs.declared.Outcome.{Outcome}
use Rattle.definition.specs.Bus.{Ask}
use Rattle.sm83.specs.State.{flags}
use Rattle.opcodes.specs.Arithmetic.{holds}
use Rattle.opcodes.specs.Instruction.{Cond, c_nz, c_z, c_nc, c_c, goes, Jump, JP-n16, JP-HL, JR-e8, CALL-n16, RET, RETI, JP-cc-n16, JR-cc-e8, CALL-cc-n16, RET-cc, RST-vec}
use Rattle.definition.specs.Execution.{Does, execute, executing}
use Rattle.definition.specs.Step.{Ended}
use Rattle.instruction.specs.Row.{condition, jump_row}
use Rattle.bus.specs.World.{World, leads}
use Rattle.instruction.specs.Holding.{check_cond, is_unconditional}
use Rattle.execution.specs.Mirror.{exec_row, mirroring}
use Rattle.execution.specs.declared.Made.{Made}

same_test : (c : Cond) (f : ℕ) → check_cond (condition c) f ≡ holds c f
unfolding mirroring
same_test c_nz f = refl
same_test c_z f = refl
same_test c_nc f = refl
same_test c_c f = refl

-- "InfiniteLoop (unconditional JP or JR ..)"
never_sure : (c : Cond) → is_unconditional (condition c) ≡ false
unfolding mirroring
never_sure c_nz = refl
never_sure c_z = refl
never_sure c_nc = refl
never_sure c_c = refl

-- two choices by one test lead to the same if both branches do
module _ (p q : Does Ended Made) (p' q' : Does Ended Outcome) (s : Cpu) (j : Made → Cpu → Ask Ended) (k : Outcome → Cpu → Ask Ended) (w : World) where
  either : (b : Bool) → leads (p s j) w ≡ leads (p' s k) w → leads (q s j) w ≡ leads (q' s k) w → leads ((if b then p else q) s j) w ≡ leads ((if b then p' else q') s k) w
  either true yes-branch no-branch = yes-branch
  either false yes-branch no-branch = no-branch

  by_condition : (c : Cond) → leads (p s j) w ≡ leads (p' s k) w → leads (q s j) w ≡ leads (q' s k) w → leads ((if check_cond (condition c) (flags s) then p else q) s j) w ≡ leads ((if holds c (flags s) then p' else q') s k) w
  by_condition c yes-branch no-branch = ap (λ (b : Bool). leads ((if b then p else q) s j) w) (same_test c (flags s)) ∙ either (holds c (flags s)) yes-branch no-branch

module _ (at : ℕ) (s : Cpu) (k : Outcome → Cpu → Ask Ended) where
  pub jump_row_lem : (j : Jump) (w : World) → leads (exec_row (jump_row j) at s k) w ≡ leads (execute at (goes j) s k) w
  unfolding executing mirroring leads
  jump_row_lem JP-n16 w = refl
  jump_row_lem JP-HL w = refl
  jump_row_lem JR-e8 w = refl
  jump_row_lem CALL-n16 w = refl
  jump_row_lem RET w = refl
  jump_row_lem RETI w = refl
  jump_row_lem (RST-vec v) w = refl
  jump_row_lem (JP-cc-n16 c) w = by_condition _ _ _ _ _ _ _ _ c (rw (never_sure c)) refl
  jump_row_lem (JR-cc-e8 c) w = by_condition _ _ _ _ _ _ _ _ c (rw (never_sure c)) refl
  jump_row_lem (CALL-cc-n16 c) w = by_condition _ _ _ _ _ _ _ _ c refl refl
  jump_row_lem (RET-cc c) w = rw (never_sure c, leads) (by_condition _ _ _ _ _ _ _ _ c refl refl)
