use Rattle.std.proofs.Common.{◌<◌, length, arith, ◌∙◌}
use Rattle.std.proofs.Math.ListN.{length-set}
use Rattle.lp_behaviour.specs.Signals.{known}
use Rattle.lp_behaviour.proofs.Filling.{fill_more}
use Rattle.lp_choice.specs.declared.wires.Wire.{Wire}
use Rattle.lp_choice.specs.Wires.{level}
use Rattle.lp_choice.proofs.wires.levels_of.Goals as goal

pub loop-i-preserved : goal.loop-i-preserved
loop-i-preserved c =
    let inside : c.loop-i.i < length c.loop-i.levels = omega arith in
    let there : c.loop-i.i < length c.args.wires.now = omega arith in
    record {
      filled = fill_more (λ (w : Wire). known (level c.args.choice.now w)) c.args.wires.now c.loop-i.levels c.loop-i.i _ _ there inside c.loop-i.invariant.filled c.level.ensures;
      room = length-set c.loop-i.levels c.loop-i.i _ ∙ c.loop-i.invariant.room;
    }
