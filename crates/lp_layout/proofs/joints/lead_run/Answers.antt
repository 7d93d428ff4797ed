use Rattle.lp_layout.proofs.Fed.{run_more}
use Rattle.lp_layout.proofs.joints.lead_run.Goals as goal

pub loop-k-preserved : goal.loop-k-preserved
loop-k-preserved c =
    run_more c.loop-k.wires c.lead.new.self c.args.to c.args.from c.args.kind c.args.run c.loop-k.k c.loop-k-test.true c.place-node.ensures c.from_at-source.ensures c.in_ok-lead.ensures c.loop-k.invariant
