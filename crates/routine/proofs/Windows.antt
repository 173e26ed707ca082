-- The rows on windows: each window's bytes stand at address 0; the refusal's number, or 0 where it passes, and the marks it leaves. One table, one proof.
use mathlib.Core.Path.{◌≡◌, refl}
use mathlib.Core.List.{List, [], ◌∷◌, map}
use Prim.Native.Nat.{ℕ}
use lib.ListN.{length}
use Rattle.opcodes.specs.Instruction.{decode}
use Rattle.routine.specs.Numbers.{verdict_number}
use Rattle.routine.specs.Flow.{flow_at}
use Rattle.routine.specs.Screen.{marks_from, walk, scan, verdict, marks_after}

abbrev row : List ℕ → ℕ × List ℕ
row w = (verdict_number (verdict w 0 (length w)), marks_after (verdict w 0 (length w)) w 0 (length w))

-- "C9 passes, marks 1. 18 FE passes, marks 1 0. 00: 9. 20 00: 9. 18 FF: 10. CB: 8. 76: 7."
pub windows : map row ((0xc9 ∷ []) ∷ (0x18 ∷ 0xfe ∷ []) ∷ (0x00 ∷ []) ∷ (0x20 ∷ 0x00 ∷ []) ∷ (0x18 ∷ 0xff ∷ []) ∷ (0xcb ∷ []) ∷ (0x76 ∷ []) ∷ []) ≡ (0, 1 ∷ []) ∷ (0, 1 ∷ 0 ∷ []) ∷ (9, 0 ∷ []) ∷ (9, 0 ∷ 0 ∷ []) ∷ (10, 0 ∷ 0 ∷ []) ∷ (8, 0 ∷ []) ∷ (7, 0 ∷ []) ∷ []
unfolding decode flow_at marks_from walk scan verdict
windows = refl
