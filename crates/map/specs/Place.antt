-- What stands at an address: nothing of the window, an instruction's start, or the inside of an instruction.
use Rattle.std.specs.Prelude.{◌||◌, List, ℕ, zero, suc, ◌-◌, eqb, ltb, if◌then◌else◌}
use Rattle.sm83.specs.State.{addr}
use Rattle.opcodes.specs.Instruction.{operands}
use Rattle.routine.specs.Flow.{instruction_at}
use Rattle.map.specs.declared.place.Place.{Place}
use Rattle.map.specs.declared.place.Place.TheVariants.{Outside, Start, Inside}

-- As the screen walks: of the instruction that began at `start`, k bytes are still to come before the byte at an address.

-- where the instruction starts that holds the byte n bytes after `at`
unfoldable pub holder : List ℕ → ℕ → ℕ → ℕ → ℕ → ℕ
holder m start zero at zero = at
holder m start (suc k) at zero = start
holder m start zero at (suc n) = holder m at (operands (instruction_at m at)) (suc at) n
holder m start (suc k) at (suc n) = holder m start k (suc at) n

-- in the window from first to last, both in it
unfoldable pub place_of : List ℕ → ℕ → ℕ → ℕ → Place
place_of m first last target =
    let start : ℕ = holder m first 0 first (target - first) in
    if ltb target first || ltb last target then Outside else
    (if eqb start target then Start else Inside (addr start))
