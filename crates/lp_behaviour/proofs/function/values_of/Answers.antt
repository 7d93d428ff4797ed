use Rattle.std.proofs.Common.{◌<◌, length, arith, ◌∙◌}
use Rattle.std.proofs.Math.ListN.{length-set}
use Rattle.lp_behaviour.specs.Signals.{signal_value}
use Rattle.lp_behaviour.proofs.Filling.{fill_more}
use Rattle.lp_behaviour.proofs.function.values_of.Goals as goal

pub loop-i-preserved : goal.loop-i-preserved
loop-i-preserved c =
    let inside : c.loop-i.i < length c.loop-i.values = omega arith in
    record {
      filled = fill_more (signal_value c.args.cell.now c.args.pins.now c.args.bit) c.args.names.now c.loop-i.values c.loop-i.i _ _ c.loop-i-test.true inside c.loop-i.invariant.filled c.value_of_name.ensures;
      room = length-set c.loop-i.values c.loop-i.i _ ∙ c.loop-i.invariant.room;
    }
