-- Where the last steps of a run were: the PC before each, by how many may follow it.
use Rattle.std.specs.Prelude.{ℕ, List, length, nat_lt, slice_set, if◌then◌else◌}
use Rattle.sm83.specs.State.{pc}
use Rattle.phk.specs.declared.far.Far.{Far}

abbrev pub noted : Far → ℕ → List ℕ → List ℕ
noted f follow pcs = if nat_lt follow (length pcs) then slice_set pcs follow (pc f.cpu) else pcs
