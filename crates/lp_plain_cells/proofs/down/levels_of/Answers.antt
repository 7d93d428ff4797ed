use Rattle.std.proofs.Common.{◌<◌, length, arith, ◌∙◌}
use Rattle.std.proofs.Math.ListN.{length-set}
use Rattle.lp_behaviour.proofs.Filling.{fill_more}
use Rattle.lp_plain_cells.specs.Rails.{value_named}
use Rattle.lp_plain_cells.proofs.down.levels_of.Goals as goal

pub loop-i-preserved : goal.loop-i-preserved
loop-i-preserved c =
    let inside : c.loop-i.i < length c.loop-i.levels = omega arith in
    record {
      filled = fill_more (value_named c.args.names.now c.args.cell.now c.args.on.power c.args.on.gnd) c.args.variables.now c.loop-i.levels c.loop-i.i _ _ c.loop-i-test.true inside c.loop-i.invariant.filled c.level_of_name.ensures;
      room = length-set c.loop-i.levels c.loop-i.i _ ∙ c.loop-i.invariant.room;
    }
