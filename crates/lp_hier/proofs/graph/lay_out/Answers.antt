use Rattle.std.proofs.Common.{◌≡◌, None, arith}
use Rattle.lp_targets.specs.Structures.{structure_of}
use Rattle.lp_node_text.specs.Reports.{source_report}
use Rattle.lp_hier.proofs.Ready.{few, laid}
use Rattle.lp_hier.proofs.Reporting.{first_bits, no_source}
use Rattle.lp_hier.proofs.Laying.{top_small, closed_by, laid_ok, laid_err}
use Rattle.lp_hier.proofs.graph.lay_out.Goals as goal

pub check_sources-requires : goal.check_sources-requires
check_sources-requires c = few c.args.names.now c.args.netlist c.args.library.now c.args.hierarchy.now c.requires.judged

pub returns-in-Err-clause-err : goal.returns-in-Err-clause-err
returns-in-Err-clause-err c = first_bits (structure_of c.args.names.now c.args.netlist c.args.library.now) c.in-Err.refused (c.in-Err.ensures c.requires.ready)

pub overflow_cast-hierarchy : goal.overflow_cast-hierarchy
overflow_cast-hierarchy c =
    let h = c.args.hierarchy.now in
    let low = top_small c.args.names.now c.args.netlist c.args.library.now h.rows h.order.items h.top c.requires.judged.named.few_modules c.requires.judged.resolved in
    omega (arith, low)

pub without_loops-requires : goal.without_loops-requires
without_loops-requires c =
    let s = structure_of c.args.names.now c.args.netlist c.args.library.now in
    let can = laid c.args.names.now c.args.netlist c.args.library.now c.args.hierarchy.now c.requires.judged c.args.templates.now c.requires.ready (no_source s (c.in-Ok.ensures c.requires.ready)) in
    closed_by c.args.names.now c.args.netlist c.args.library.now c.args.hierarchy.now c.args.templates.now can c.in_ok-graph.graph c.in_ok-graph.ensures

pub returns-clause-ok : goal.returns-clause-ok
returns-clause-ok c =
    let s = structure_of c.args.names.now c.args.netlist c.args.library.now in
    let can = laid c.args.names.now c.args.netlist c.args.library.now c.args.hierarchy.now c.requires.judged c.args.templates.now c.requires.ready (no_source s (c.in-Ok.ensures c.requires.ready)) in
    laid_ok c.args.names.now c.args.netlist c.args.library.now c.args.hierarchy.now c.args.templates.now can c.in_ok-graph.graph c.in_ok-graph.ensures c.without_loops.result c.without_loops.ensures.stops c.without_loops.ensures.same

pub returns-clause-err : goal.returns-clause-err
returns-clause-err c =
    let s = structure_of c.args.names.now c.args.netlist c.args.library.now in
    let none : source_report s ≡ None = c.in-Ok.ensures c.requires.ready in
    let can = laid c.args.names.now c.args.netlist c.args.library.now c.args.hierarchy.now c.requires.judged c.args.templates.now c.requires.ready (no_source s none) in
    laid_err c.args.names.now c.args.netlist c.args.library.now c.args.hierarchy.now c.args.templates.now can c.in_ok-graph.graph c.in_ok-graph.ensures none c.without_loops.result c.without_loops.ensures.stops
