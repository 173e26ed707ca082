-- Which bytes after CB write to HL.
use mathlib.Core.Path.{◌≡◌, refl, ap, ap₂, ◌∙◌}
use mathlib.Core.Bool.{◌&&◌, ◌||◌}
use mathlib.Core.List.{List, [], ◌∷◌}
use Prim.Native.Nat.{ℕ, ◌+◌, ◌-◌, ◌%◌, ◌<◌}
use native.Mathlib.Omega.{arith}
use lib.Dec.{eqb, ltb}
use Rattle.sm83.specs.Basics.{back}
use Rattle.opcodes.specs.Instruction.{decode_cb}
use Rattle.opcodes.proofs.Tested.{agree}
use Rattle.watch.specs.Places.{writes_hl, pushed_from}

-- after CB, a computed test over all 256 bytes
pub on_hl : (b : ℕ) → b < 256 → eqb (b % 8) 6 && (ltb b 64 || ltb 127 b) ≡ writes_hl (decode_cb b)
unfolding decode_cb
on_hl b = agree (λ b. eqb (b % 8) 6 && (ltb b 64 || ltb 127 b)) (λ b. writes_hl (decode_cb b)) 256 refl b
