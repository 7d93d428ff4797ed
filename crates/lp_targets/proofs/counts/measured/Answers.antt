use Rattle.std.proofs.Common.{sym, ap, ◌∙◌}
use Rattle.lp_targets.specs.Structures.{structure_of}
use Rattle.lp_targets.specs.Reports.{limit_told, limits_report}
use Rattle.lp_targets.specs.Children.{children_of}
use Rattle.lp_targets.proofs.Closed.{count_map}
use Rattle.lp_targets.proofs.Looping.{count}
use Rattle.lp_targets.proofs.OverLimits.{limits_same, sizes_right, ok_told, err_told}
use Rattle.lp_targets.proofs.counts.measured.Goals as goal

pub returns-clause-ok : goal.returns-clause-ok
returns-clause-ok c = λ texts l resolved.
    let s = structure_of texts c.args.netlist.now l in
    let counts = c.in_ok-counts.ensures c.args.top texts l resolved in
    ok_told c.in_ok-counts.counts c.args.top (limits_report s) c.sizes_within-sizes.result (ap limit_told (limits_same s c.args.rows.now c.args.order.now c.args.top resolved c.in_ok-counts.counts counts)) c.sizes_within-sizes.ensures.ok

pub returns-clause-sizes : goal.returns-clause-sizes
returns-clause-sizes c = λ texts l resolved.
    let s = structure_of texts c.args.netlist.now l in
    let rows = c.args.rows.now in
    let counts = c.in_ok-counts.ensures c.args.top texts l resolved in
    c.sizes_within-sizes.ensures.sizes s (sym (count_map children_of rows) ∙ count s rows resolved.known.targets) (sizes_right s rows c.args.order.now c.args.top resolved c.in_ok-counts.counts counts)

pub returns-clause-err : goal.returns-clause-err
returns-clause-err c = λ texts l resolved.
    let s = structure_of texts c.args.netlist.now l in
    let counts = c.in_ok-counts.ensures c.args.top texts l resolved in
    err_told texts c.in_ok-counts.counts c.args.top (limits_report s) c.sizes_within-sizes.result (ap limit_told (limits_same s c.args.rows.now c.args.order.now c.args.top resolved c.in_ok-counts.counts counts)) (c.sizes_within-sizes.ensures.err texts)
