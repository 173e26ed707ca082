-- Shows that no lane is taken before the first arrow.
use Rattle.std.proofs.Common.{false}
use Rattle.std.proofs.lemmas.List.{get_or-replicate}
use Rattle.map.proofs.lanes.taken_lanes.Goals as goal

pub loop-arrow-init : goal.loop-arrow-init
loop-arrow-init c lane low = get_or-replicate 256 lane false false low
