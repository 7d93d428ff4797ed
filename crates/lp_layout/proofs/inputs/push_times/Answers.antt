use Rattle.lp_layout.proofs.InputBits.{times_more}
use Rattle.lp_layout.proofs.inputs.push_times.Goals as goal

pub loop-k-preserved : goal.loop-k-preserved
loop-k-preserved c = times_more c.loop-k.inputs.items c.push.new.self.items c.args.is_input c.args.count c.loop-k.k c.loop-k-test.true c.in_ok-push.ensures.items c.loop-k.invariant
