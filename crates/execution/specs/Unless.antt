-- "RET cc": a return that is not sure idles before its condition is looked at.
use Rattle.std.specs.Prelude.{Bool, List, ℕ, if◌then◌else◌}
use Rattle.definition.specs.Bus.{idle}
use Rattle.bus.specs.declared.Port.{Port}
use Rattle.bus.specs.World.{Leaves}

abbrev pub IdlesUnless : Bool → Port → List ℕ → Port → List ℕ → Type 0
IdlesUnless sure = Leaves (λ rest. if sure then rest else idle rest)
