-- Shows the search over the lanes: each that was passed over is taken, and the one that is found is not.
use Rattle.std.proofs.Common.{◌≡◌, ℕ, Bool, true, false, rules, tests}
use Rattle.std.proofs.lemmas.Iterator.{first_from_Range}
use Rattle.map.specs.Lanes.{is_taken}
use Rattle.map.proofs.lanes.Searching.{first_free}
use Rattle.map.proofs.lanes.free_lane.Goals as goal

pub returns : goal.returns
returns c =
    let taken : ℕ → Bool = is_taken c.args.arrows.now c.args.rows in
    first_free taken c.args.count c.find.result (first_from_Range _ _ _ _ (λ i. taken i ≡ false) (λ i. taken i ≡ true) c.find.ensures.ran (λ x q k. search (rules, tests)) (λ x q k. (search rules, search (rules, tests))))
