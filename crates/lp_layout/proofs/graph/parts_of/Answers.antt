use Rattle.std.proofs.Common.{ap}
use Rattle.std.specs.Option.{option_copied}
use Rattle.lp_layout.specs.Rows.{rows_view}
use Rattle.lp_layout.specs.Sites.{sites_view}
use Rattle.lp_layout.proofs.Tabled.{all_parts}
use Rattle.lp_layout.proofs.graph.parts_of.Goals as goal

pub returns : goal.returns
returns c =
    let rows = c.in_ok-sites.field-0 in
    all_parts c.args.modules.now c.args.cells.now c.args.templates.now c.args.top (rows_view rows) (option_copied c.at-first.result) c.own_name.result.0 (sites_view c.as_slice-sites.result.now) _ _ c.in_ok-wires.field-0.wires c.in_ok-wires.field-0.inner
    c.in_ok-sites.ensures c.at-first.ensures c.own_name.ensures (ap sites_view c.as_slice-sites.ensures.value)
    c.in_ok-shapes.ensures c.in_ok-instances.ensures c.in_ok-wires.ensures.wires c.in_ok-wires.ensures.inner
