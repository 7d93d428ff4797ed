use Rattle.std.proofs.Common.{◌<◌, length, ◌∙◌, arith}
use Rattle.lp_drivers.proofs.Joined.{see-run}
use Rattle.lp_drivers.proofs.marks.Marks.see_joints.Goals as goal

pub loop-run-preserved : goal.loop-run-preserved
loop-run-preserved c =
    let runs = c.runs-runs.result.now in
    let low : c.loop-run.run-index < length runs = omega (arith, c.loop-run-test.true) in
    see-run c.loop-run.self c.see_run.new.self runs c.loop-run.run-index _ low c.see_run.ensures ∙ c.loop-run.invariant
