use Rattle.std.proofs.Common.{◌<◌, ◌≤◌, length, get_or, sym, subst, ◌∙◌, arith}
use Rattle.lp_model.specs.declared.graph.EdgeFrom.TheVariants.{Node}
use Rattle.lp_spec_design.specs.Netlists.{upward}
use Rattle.lp_templates.specs.declared.run.Run.{Run}
use Rattle.lp_drivers.proofs.Seeing.{lower-least}
use Rattle.lp_drivers.proofs.Joined.{lower-run}
use Rattle.lp_drivers.proofs.marks.Marks.lower_joints.Goals as goal

pub loop-run-preserved : goal.loop-run-preserved
loop-run-preserved c =
    let runs = c.runs-runs.result.now in
    let none : Run = record { to = 0; count = 0; from = Node (record { 0 = 0 }) } in
    let run : Run = get_or runs c.loop-run.run-index none in
    let low : c.loop-run.run-index < length runs = omega (arith, c.loop-run-test.true) in
    let less : c.lower_run-least.result ≤ c.loop-run.least = subst (λ n. n ≤ c.loop-run.least) (sym c.lower_run-least.ensures) (lower-least c.args.self.now.1 c.loop-run.least (upward run.count run.to)) in
    record {
      low = (let before = c.loop-run.invariant.low in omega (arith, less, before));
      is = lower-run c.args.self.now.1 c.loop-run.least c.lower_run-least.result runs c.loop-run.run-index none low c.lower_run-least.ensures ∙ c.loop-run.invariant.is;
    }
