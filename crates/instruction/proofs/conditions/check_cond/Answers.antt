-- Shows each condition by its flag: an arm's own condition, with Z and C as the definition reads them.
use Rattle.instruction.specs.Holding.{check_cond}
use Rattle.instruction.proofs.conditions.check_cond.Goals as goal

pub returns-in-NC : goal.returns-in-NC
unfolding check_cond
returns-in-NC c = simp (c.in-NC.is, c.flag_z-z.ensures, c.flag_c-c.ensures)

pub returns-in-C : goal.returns-in-C
unfolding check_cond
returns-in-C c = simp (c.in-C.is, c.flag_z-z.ensures, c.flag_c-c.ensures)

pub returns-in-NZ : goal.returns-in-NZ
unfolding check_cond
returns-in-NZ c = simp (c.in-NZ.is, c.flag_z-z.ensures, c.flag_c-c.ensures)

pub returns-in-Z : goal.returns-in-Z
unfolding check_cond
returns-in-Z c = simp (c.in-Z.is, c.flag_z-z.ensures, c.flag_c-c.ensures)

pub returns-in-Unconditional : goal.returns-in-Unconditional
unfolding check_cond
returns-in-Unconditional c = simp (c.in-Unconditional.is, c.flag_z-z.ensures, c.flag_c-c.ensures)
