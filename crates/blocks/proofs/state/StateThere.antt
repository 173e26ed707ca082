-- A state that is written to a block and read back is that state.
use mathlib.Core.Path.{◌≡◌, ap, ◌∙◌}
use mathlib.Core.List.{List, ◌++◌}
use Prim.Native.Nat.{ℕ}
use native.Mathlib.Omega.{arith}
use lib.ListN.{length, drop, length-drop}
use borrow.Author.Tests.{eq-eqb}
use Rattle.sm83.specs.declared.Cpu.{Cpu}
use Rattle.std.specs.Prelude.{Some}
use Rattle.blocks.specs.StateBlock.{state_fields, state_bytes, state_of}
use Rattle.blocks.proofs.state.Coded.{word_there_lem, flag_there, flag_well, halt_there, halt_well}
use Rattle.blocks.proofs.bytes.Filled.{at_length}

-- eighteen bytes of a state, and six others
pub fields_read : (s : Cpu) (reserved : List ℕ) → length reserved ≡ 6 → state_of (state_fields s ++ reserved) ≡ Some s
fields_read s reserved six =
    simp (eq-eqb (length (state_fields s ++ reserved)) 24 (omega (arith, six)), flag_well, halt_well, flag_there, halt_there, word_there_lem)

pub state_there : (s : Cpu) (block : List ℕ) → length block ≡ 24 → state_of (state_bytes s block) ≡ Some s
state_there s block same =
    ap state_of (at_length 24 (state_fields s) block same) ∙ fields_read s (drop 18 block) (length-drop 18 block ∙ omega arith)
