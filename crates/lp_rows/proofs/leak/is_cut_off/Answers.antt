use Rattle.std.proofs.Common.{◌≡◌, ◌<◌, Some, false, length, sym, ◌∙◌, arith}
use Rattle.lp_rows.specs.Network.{input_of}
use Rattle.lp_rows.specs.Rows.{listed}
use Rattle.lp_rows.specs.Leaks.{is_off}
use Rattle.lp_rows.proofs.CutLemmas.{cut_step}
use Rattle.lp_rows.proofs.leak.is_cut_off.Goals as goal

pub loop-step-preserved : goal.loop-step-preserved
loop-step-preserved c =
    let s = c.args.s.now in
    let switch : input_of s c.loop-step.at ≡ Some c.in-Some.next = sym c.input.ensures ∙ c.in-Some.is in
    let on : is_off (listed c.args.row.now c.loop-step.at) ≡ false = sym c.is_listed_off.ensures ∙ c.if-is_listed_off.false in
    let below : c.loop-step.step < length s.origins = omega arith in
    cut_step s c.args.row.now c.args.a (length s.origins) c.loop-step.step c.loop-step.at c.in-Some.next below switch on c.if-at-a.false
    ∙ c.loop-step.invariant
