-- The bytes at FF0F and FFFF as they lie there, for this crate and for what looks at stored bytes. The processor knows a peek and the push that takes by what the bus says of them.
use Rattle.std.specs.Prelude.{◌≡◌, ℕ, List, slice_set, Option}
use Rattle.sm83.specs.Basics.{cleared}
use Rattle.outcome.specs.declared.interrupt.InterruptType.{InterruptType}
use Rattle.outcome.specs.Interrupts.{interrupt_number}
use Rattle.definition.specs.Bus.{byte_at, pending, taken}

-- an interrupt seen
pub record Sees (m : List ℕ) (i : Option InterruptType) (m' : List ℕ) : Type 0 where
  pub seen : i ≡ pending m
  pub same : m' ≡ m

-- its bit cleared
pub record Clears (i : InterruptType) (m m' : List ℕ) : Type 0 where
  pub left : m' ≡ slice_set m 0xff0f (cleared (interrupt_number i) (byte_at m 0xff0f))

-- an interrupt seen, and taken if there is one
pub record SeesAndTakes (m : List ℕ) (i : Option InterruptType) (m' : List ℕ) : Type 0 where
  pub seen : i ≡ pending m
  pub left : m' ≡ taken m
