use Rattle.std.proofs.Common.{◌≡◌, drop}
use Rattle.std.specs.Prelude.{flat_map}
use Rattle.lp_templates.specs.Runs.{run_joints}
use Rattle.lp_layout.specs.Wires.{fed}
use Rattle.lp_layout.specs.Fed.{joint_feeds}
use Rattle.lp_layout.proofs.joints.lead_all.Given as goal

abbrev pub invariant-loop-run : goal.invariant-loop-run
invariant-loop-run l = fed l.wires (joint_feeds l.to l.from l.kind (flat_map run_joints (drop l.run-index l.run-items))) ≡ fed l.fn.wires (joint_feeds l.to l.from l.kind (flat_map run_joints l.run-items))
