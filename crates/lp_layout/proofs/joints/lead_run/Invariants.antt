use Rattle.std.proofs.Common.{◌≡◌}
use Rattle.lp_templates.specs.Runs.{run_joints}
use Rattle.lp_layout.specs.Wires.{fed}
use Rattle.lp_layout.specs.Fed.{joint_feeds}
use Rattle.lp_layout.proofs.Fed.{joints_behind}
use Rattle.lp_layout.proofs.joints.lead_run.Given as goal

abbrev pub invariant-loop-k : goal.invariant-loop-k
invariant-loop-k l = fed l.wires (joint_feeds l.to l.from l.kind (joints_behind l.run l.k)) ≡ fed l.fn.wires (joint_feeds l.to l.from l.kind (run_joints l.run))
