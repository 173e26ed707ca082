-- Shows the state block at power-on: nothing stands behind the bytes that are put.
use Rattle.std.proofs.Common.{◌≤◌, length, arith, drop_of_length-le}
use Rattle.std.proofs.lemmas.Grind.{common_steps}
use Rattle.library.specs.PoweredOn.{powered_on}
use Rattle.library.proofs.powercall.power_on_block.Goals as goal

pub returns : goal.returns
unfolding powered_on
returns c =
    let fits : length c.args.state.now ≤ 24 = omega arith in
    grind (arith, common_steps, drop_of_length-le c.args.state.now fits)
