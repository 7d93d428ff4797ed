use Rattle.std.proofs.Common.{subst}
use Rattle.lp_targets.specs.Structures.{structure_of}
use Rattle.lp_targets.specs.Reports.{names_report, shape_report}
use Rattle.lp_targets.specs.Sizes.{IsResolved}
use Rattle.lp_targets.proofs.Stops.{stop_later, none_later}
use Rattle.lp_targets.proofs.Shaped.{are_rows}
use Rattle.lp_targets.proofs.hierarchy.hierarchy_of.Goals as goal

pub returns-in-Ok-shape_of-clause-resolved : goal.returns-in-Ok-shape_of-clause-resolved
returns-in-Ok-shape_of-clause-resolved c =
    let texts = c.args.names.now in
    let s = structure_of texts c.args.netlist.now c.args.library.now in
    let are = are_rows texts c.args.netlist.now c.args.library.now c.in-Ok.rows c.as_slice.result.now c.as_slice.ensures c.in-Ok.ensures.targets c.in-Ok.ensures.closed c.in-Ok.ensures.cells in
    subst (λ rows. IsResolved s rows c.in-Ok-shape_of.shape.order.items c.in-Ok-shape_of.shape.top) c.as_slice.ensures (c.in-Ok-shape_of.ensures.resolved c.args.library.now are)

pub returns-in-Ok-shape_of-clause-sizes : goal.returns-in-Ok-shape_of-clause-sizes
returns-in-Ok-shape_of-clause-sizes c =
    c.in-Ok-shape_of.ensures.sizes c.args.library.now
    (are_rows c.args.names.now c.args.netlist.now c.args.library.now c.in-Ok.rows c.as_slice.result.now c.as_slice.ensures c.in-Ok.ensures.targets c.in-Ok.ensures.closed c.in-Ok.ensures.cells)

pub returns-in-Ok-shape_of-clause-ok : goal.returns-in-Ok-shape_of-clause-ok
returns-in-Ok-shape_of-clause-ok c =
    let texts = c.args.names.now in
    let s = structure_of texts c.args.netlist.now c.args.library.now in
    let are = are_rows texts c.args.netlist.now c.args.library.now c.in-Ok.rows c.as_slice.result.now c.as_slice.ensures c.in-Ok.ensures.targets c.in-Ok.ensures.closed c.in-Ok.ensures.cells in
    none_later (names_report s) (shape_report s) c.in-Ok.ensures.ok (c.in-Ok-shape_of.ensures.ok c.args.library.now are)

pub returns-in-Err-shape_of-clause-err : goal.returns-in-Err-shape_of-clause-err
returns-in-Err-shape_of-clause-err c =
    let texts = c.args.names.now in
    let s = structure_of texts c.args.netlist.now c.args.library.now in
    let are = are_rows texts c.args.netlist.now c.args.library.now c.in-Ok.rows c.as_slice.result.now c.as_slice.ensures c.in-Ok.ensures.targets c.in-Ok.ensures.closed c.in-Ok.ensures.cells in
    stop_later texts (names_report s) (shape_report s) c.in-Err-shape_of.refusal c.in-Ok.ensures.ok (c.in-Err-shape_of.ensures.err c.args.library.now are)
