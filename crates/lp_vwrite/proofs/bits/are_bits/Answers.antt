use Rattle.std.proofs.Common.{◌==◌, ◌≤◌, length, ap, ◌∙◌, arith}
use Rattle.std.specs.Prelude.{flat_map}
use Rattle.std.proofs.lemmas.List.{length-drop}
use Rattle.lp_text.specs.Texts.{text_at}
use Rattle.lp_model.specs.Bits.{between, run_bits}
use Rattle.lp_model.specs.NetlistView.{bits_view}
use Rattle.lp_vwrite.specs.Layout.{are_bits}
use Rattle.lp_vwrite.proofs.Whole.{runs-go, runs-end}
use Rattle.lp_vwrite.proofs.bits.are_bits.Goals as goal

pub loop-run-preserved : goal.loop-run-preserved
loop-run-preserved c =
    let all = between c.args.range.left c.args.range.right in
    let t = text_at c.args.names.now c.args.name.0 in
    let short = c.in-Some.ensures.0 in
    let left = length-drop c.loop-run.done all in
    let before = c.loop-run.invariant.0 in
    (omega (arith, short, left, before), runs-go c.args.names.now t all c.args.runs.now c.loop-run.run-index c.loop-run.done _ c.in-Some.steps (are_bits t all (bits_view c.args.names.now (flat_map run_bits c.args.runs.now))) c.loop-run-test.true c.in-Some.ensures c.loop-run.invariant.1)

pub returns : goal.returns
returns c =
    let all = between c.args.range.left c.args.range.right in
    let t = text_at c.args.names.now c.args.name.0 in
    let past : length c.args.runs.now ≤ c.loop-run.run-index = omega arith in
    ap (λ n. c.loop-run.done == n) c.size-all.ensures ∙ runs-end c.args.names.now t all c.args.runs.now c.loop-run.run-index c.loop-run.done (are_bits t all (bits_view c.args.names.now (flat_map run_bits c.args.runs.now))) past c.loop-run.invariant.0 c.loop-run.invariant.1
