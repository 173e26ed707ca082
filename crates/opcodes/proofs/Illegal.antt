-- The eleven opcodes of refusal 3: these bytes decode to ILLEGAL and no others, by one computed test.
use mathlib.Core.Path.{◌≡◌, refl}
use mathlib.Core.Bool.{Bool, true, false, false≢true}
use Prim.Native.Nat.{ℕ, ◌<◌}
use Rattle.opcodes.specs.Instruction.{Instruction, does, goes, CB-prefix, HALT, STOP, EI, LD-B-B, ILLEGAL, decode}
use Rattle.opcodes.specs.Published.{one_of, illegal_opcodes}
use Rattle.opcodes.proofs.Tested.{agree}

abbrev pub is_illegal : Instruction → Bool
is_illegal (does w) = false
is_illegal (goes j) = false
is_illegal CB-prefix = false
is_illegal HALT = false
is_illegal STOP = false
is_illegal EI = false
is_illegal LD-B-B = false
is_illegal ILLEGAL = true

pub illegal_is : (i : Instruction) → is_illegal i ≡ true → i ≡ ILLEGAL
illegal_is (does w) e = absurd (false≢true e)
illegal_is (goes j) e = absurd (false≢true e)
illegal_is CB-prefix e = absurd (false≢true e)
illegal_is HALT e = absurd (false≢true e)
illegal_is STOP e = absurd (false≢true e)
illegal_is EI e = absurd (false≢true e)
illegal_is LD-B-B e = absurd (false≢true e)
illegal_is ILLEGAL e = refl

-- "opcode D3 DB DD E3 E4 EB EC ED F4 FC FD": these and no others
pub illegal_bytes : (x : ℕ) → x < 256 → is_illegal (decode x) ≡ one_of illegal_opcodes x
unfolding decode illegal_opcodes
illegal_bytes = agree _ _ 256 refl
