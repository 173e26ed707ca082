-- Shows the verdict on marks that are as many as the window's bytes.
use mathlib.Core.Path.{◌∙◌}
use native.Mathlib.Omega.{arith}
use lib.Seq.{length-take-le}
use Rattle.map.proofs.passing.Lent.{as_screened}
use Rattle.map.proofs.passing.would_pass.Goals as goal

pub returns : goal.returns
returns c = as_screened _ _ _ _ (length-take-le _ _ (omega arith) ∙ omega arith) _ c.screen.ensures.verdict _ c.is_ok.ensures.value
