use Rattle.std.proofs.Common.{◌∙◌}
use Rattle.lp_hier.proofs.Ready.{few, ready}
use Rattle.lp_hier.proofs.graph.elaborate.Goals as goal

pub templates_of-requires : goal.templates_of-requires
templates_of-requires c = few c.args.names.now c.args.netlist c.args.library.now c.args.hierarchy.now c.requires.judged

pub lay_out-requires-clause-ready : goal.lay_out-requires-clause-ready
lay_out-requires-clause-ready c =
    ready c.args.names.now c.args.netlist c.args.library.now c.args.hierarchy.now c.requires.judged c.count-count.ensures.distinct
    c.as_slice-rows.result.now c.as_slice-rows.ensures c.as_slice-sizes.result.now c.as_slice-sizes.ensures.value
    c.as_slice.result.now (c.as_slice.ensures.value ∙ c.in_ok-templates.ensures)
