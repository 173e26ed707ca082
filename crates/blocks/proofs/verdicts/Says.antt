-- Number and address of a verdict, read back by their offsets, are those that were written.
use mathlib.Core.Path.{◌≡◌, refl, sym, subst}
use mathlib.Core.List.{List, ◌++◌}
use Prim.Native.Nat.{ℕ}
use lib.ListN.{length, drop}
use Rattle.routine.specs.Verdict.{Verdict}
use Rattle.definition.specs.Bus.{byte_at}
use Rattle.routine.specs.Numbers.{verdict_says}
use Rattle.blocks.specs.Bytes.{word_at}
use Rattle.blocks.specs.StateBlock.{flag_at}
use Rattle.blocks.specs.ScreenBlock.{named, address, verdict_fields, verdict_bytes}
use Rattle.blocks.proofs.state.Coded.{word_there_lem, flag_there}
use Rattle.blocks.proofs.bytes.Filled.{at_length}

-- what stands in a screen's answer
pub record Says (verdict : Verdict) (block : List ℕ) : Type 0 where
  pub number_at_0 : byte_at block 0 ≡ (verdict_says verdict).number
  pub named_at_1 : flag_at block 1 ≡ named (verdict_says verdict).values
  pub address_at_2 : word_at block 2 ≡ (address (verdict_says verdict).values).0

fields_say : (verdict : Verdict) (rest : List ℕ) → Says verdict (verdict_fields (verdict_says verdict) ++ rest)
fields_say verdict rest =
    record { number_at_0 = refl; named_at_1 = flag_there (named (verdict_says verdict).values); address_at_2 = word_there_lem (address (verdict_says verdict).values).0 }

pub verdict_there : (verdict : Verdict) (block : List ℕ) → length block ≡ 4 → Says verdict (verdict_bytes verdict block)
verdict_there verdict block same =
    subst (Says verdict) (sym (at_length 4 (verdict_fields (verdict_says verdict)) block same)) (fields_say verdict (drop 4 block))
