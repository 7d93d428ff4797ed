use Rattle.lp_layout.proofs.Fed.{joints_more}
use Rattle.lp_layout.proofs.joints.lead_all.Goals as goal

pub loop-run-preserved : goal.loop-run-preserved
loop-run-preserved c = joints_more c.loop-run.wires c.lead_run.new.wires c.args.to c.args.from c.args.kind c.runs-run-items.result.now c.loop-run.run-index _ c.loop-run-test.true c.in_ok-lead_run.ensures c.loop-run.invariant
