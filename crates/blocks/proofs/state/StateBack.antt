-- A well-formed block whose state is read and written back is the block as it was.
use mathlib.Core.Path.{◌≡◌, sym, ap, ◌∙◌}
use mathlib.Core.List.{List, ◌++◌}
use Prim.Native.Nat.{ℕ}
use native.Mathlib.Omega.{arith}
use lib.ListN.{length, drop}
use Rattle.sm83.specs.declared.Cpu.{Cpu}
use Rattle.definition.specs.Bus.{byte_at}
use Rattle.ranges.proofs.Ranges.{Bytes}
use Rattle.std.specs.Prelude.{Some}
use Rattle.blocks.specs.StateBlock.{state_fields, state_bytes, state_in, state_of}
use Rattle.blocks.proofs.state.Coded.{low_back, high_back, flag_back, halt_back}
use Rattle.blocks.proofs.bytes.Filled.{at_length, bytes_from, parted}
use Rattle.blocks.proofs.state.WellFormed.{WellFormed, read_only_if}

own_front : (block : List ℕ) → Bytes block → WellFormed block → state_fields (state_in block) ≡ bytes_from block 0 18
own_front block bytes w =
    simp (
      low_back (byte_at block 9) (byte_at block 8) (bytes 8),
      high_back (byte_at block 9) (byte_at block 8) (bytes 8),
      low_back (byte_at block 11) (byte_at block 10) (bytes 10),
      high_back (byte_at block 11) (byte_at block 10) (bytes 10),
      flag_back (byte_at block 12) w.ime,
      flag_back (byte_at block 13) w.latch,
      halt_back (byte_at block 14) w.halt,
      flag_back (byte_at block 15) w.stopped,
      flag_back (byte_at block 16) w.hdma,
      flag_back (byte_at block 17) w.dmg,
    )

pub state_back : (block : List ℕ) (s : Cpu) → Bytes block → state_of block ≡ Some s → state_bytes s block ≡ block
state_back block s bytes read =
    let found = read_only_if block s read in
    let same : length block ≡ 24 = found.0.its_length in
    ap (λ (it : Cpu). state_bytes it block) (sym found.1)
    ∙ at_length 24 (state_fields (state_in block)) block same
    ∙ ap (λ (front : List ℕ). front ++ drop 18 block) (own_front block bytes found.0)
    ∙ sym (parted block 0 18 (omega arith))
