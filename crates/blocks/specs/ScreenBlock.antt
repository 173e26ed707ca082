-- The screen's answer block, 4 bytes: 0 the verdict's number, 1 is 1 if an address is named and else 0, 2-3 the address, 0 if none is named.
use Rattle.std.specs.Prelude.{Bool, true, false, List, ◌∷◌, ℕ}
use Rattle.sm83.specs.declared.Addr.{Addr}
use Rattle.sm83.specs.Basics.{bit}
use Rattle.sm83.specs.State.{addr}
use Rattle.outcome.specs.Numbers.{Values, no_value, the_interrupt, the_registers, the_address, Said}
use Rattle.routine.specs.Verdict.{Verdict}
use Rattle.routine.specs.Numbers.{verdict_says}
use Rattle.blocks.specs.Bytes.{word_bytes, filled}

-- whether there is an address among the values, and which
abbrev pub named : Values → Bool
named no_value = false
named (the_interrupt i) = false
named (the_registers r) = false
named (the_address a) = true

abbrev pub address : Values → Addr
address no_value = addr 0
address (the_interrupt i) = addr 0
address (the_registers r) = addr 0
address (the_address a) = a

abbrev pub verdict_fields : Said → List ℕ
verdict_fields says = says.number ∷ bit (named says.values) ∷ word_bytes (address says.values).0

abbrev pub verdict_bytes : Verdict → List ℕ → List ℕ
verdict_bytes v block = filled 4 (verdict_fields (verdict_says v)) block
